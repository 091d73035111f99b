-- Equal labels have equal level, rank, third and right, or there is a clash: the one place where the exception comes
-- from. A step that holds unless there is a clash is followed by the next with `do`.
use Prim.Native.Nat.{ℕ, ◌<◌}
use native.Mathlib.Decide.{ℕ_discrete}
use mathlib.Core.Path.{◌≡◌, refl, ap, sym, ◌∙◌}
use mathlib.Core.Logic.{◌⊎◌, inl, inr}
use mathlib.Core.List.Memᴰ
use mathlib.Core.List.Memᴰ.{tail}
use mathlib.Core.List.{List, ◌∷◌, ◌++◌, Memᴰ, List-discrete}
use mathlib.Core.List.{head-eq_of_cons-eq}
use lib.ListN.{length, take, drop}
use lib.Seq.{take_at, drop_at}
use Rattle.octets.proofs.NumberLaws.{be_one_to_one}
use Rattle.skiplist.specs.Label.{level_bytes, rank_bytes, rank_bound, label_of}
use Rattle.skiplist.specs.Messages.{label_messages}
use Rattle.skiplist.specs.Clash.{Clash}
use Rattle.skiplist.specs.Limits.{digest_bytes}

pub ◌>>=◌ : {C A B : Type 0} → C ⊎ A → (A → C ⊎ B) → C ⊎ B
◌>>=◌ (inl c) f = inl c
◌>>=◌ (inr a) f = f a

-- MESSAGES AMONG OTHERS
abbrev pub Within : List (List ℕ) → List (List ℕ) → Type 0
Within L M = (m : List ℕ) → Memᴰ m L → Memᴰ m M

pub within_left : (L K M : List (List ℕ)) → Within (L ++ K) M → Within L M
within_left L K M w m i = w m (Memᴰ.append_left K i)

pub within-right : (L K M : List (List ℕ)) → Within (L ++ K) M → Within K M
within-right L K M w m i = w m (Memᴰ.append_right L i)

-- a clash among some of the messages is one among all
pub clash-within : {H : List ℕ → List ℕ} {M N : List (List ℕ)} {A : Type 0} (M' : List (List ℕ)) → Within M M'
    → Clash H M N ⊎ A → Clash H M' N ⊎ A
clash-within M' w (inl c) = inl (record {
  sent = c.sent;
  kept = c.kept;
  sent_in = w c.sent c.sent_in;
  kept_in = c.kept_in;
  differ = c.differ;
  same = c.same;
})
clash-within M' w (inr a) = inr a

-- MESSAGES JOINED
append_inj : (n : ℕ) (a b c d : List ℕ) → length a ≡ n → length c ≡ n → a ++ b ≡ c ++ d → (a ≡ c) × (b ≡ d)
append_inj n a b c d p q e =
    (sym (take_at a b n p) ∙ ap (take n) e ∙ take_at c d n q, sym (drop_at a b n p) ∙ ap (drop n) e ∙ drop_at c d n q)

-- LABELS
here : {a : List ℕ} {l : List (List ℕ)} → Memᴰ a (a ∷ l)
here = Memᴰ.head refl

module _ (H : List ℕ → List ℕ) (H32 : (m : List ℕ) → length (H m) ≡ digest_bytes) (M N : List (List ℕ)) where
  pub same_message : (m n : List ℕ) → Memᴰ m M → Memᴰ n N → H m ≡ H n → Clash H M N ⊎ (m ≡ n)
  same_message m n i j e = go (List-discrete ℕ_discrete m n)
    where
      go : Dec (m ≡ n) → Clash H M N ⊎ (m ≡ n)
      go (yes p) = inr p
      go (no p) = inl (record { sent = m; kept = n; sent_in = i; kept_in = j; differ = p; same = e })

  pub peel : (l n : ℕ) (t r : List ℕ) (l' n' : ℕ) (t' r' : List ℕ)
      → Within (label_messages H l n t r) M → Within (label_messages H l' n' t' r') N → n < rank_bound → n' < rank_bound
      → label_of H l n t r ≡ label_of H l' n' t' r' → Clash H M N ⊎ ((l ≡ l') × (n ≡ n') × (t ≡ t') × (r ≡ r'))
  peel l n t r l' n' t' r' w v b b' e = do
    j ← same_message _ _ (w _ (tail (tail (tail (tail here))))) (v _ (tail (tail (tail (tail here))))) e
    let after_level = append_inj digest_bytes (H (level_bytes l)) (H (rank_bytes n) ++ (H t ++ H r)) (H (level_bytes l'))
        (H (rank_bytes n') ++ (H t' ++ H r')) (H32 _) (H32 _) j
    let after_rank = append_inj digest_bytes (H (rank_bytes n)) (H t ++ H r) (H (rank_bytes n')) (H t' ++ H r') (H32 _)
        (H32 _)
        after_level.1
    let after_third = append_inj digest_bytes (H t) (H r) (H t') (H r') (H32 _) (H32 _) after_rank.1
    levels ← same_message _ _ (w _ here) (v _ here) after_level.0
    ranks ← same_message _ _ (w _ (tail here)) (v _ (tail here)) after_rank.0
    thirds ← same_message _ _ (w _ (tail (tail here))) (v _ (tail (tail here))) after_third.0
    rights ← same_message _ _ (w _ (tail (tail (tail here)))) (v _ (tail (tail (tail here)))) after_third.1
    inr (head-eq_of_cons-eq levels, be_one_to_one 4 n n' b b' ranks, thirds, rights)
