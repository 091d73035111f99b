-- The filer's pledge: an answer that is the definition's meets it, and two answers that meet it are equal.
-- Assumes nothing.
use Prim.Native.Nat.{ℕ}
use mathlib.Core.Path.{◌≡◌, sym, ap, ◌∙◌}
use mathlib.Core.List.{List}
use Rattle.commands.specs.declared.Metadata.{Metadata}
use Rattle.gateway.specs.declared.Answer.{Answer}
use Rattle.filer.specs.Filing.{Proposal, filed_of, Files}

module _ (m : Metadata) (q : Proposal) (first second : List ℕ) where
  pub pledged : {r : Answer} → r ≡ filed_of m q first second → Files m q first second r
  pledged e = record {
    verdict = ap (λ (x : Answer). x.verdict) e;
    tag = ap (λ (x : Answer). x.tag) e;
    metadata = ap (λ (x : Answer). x.metadata) e;
  }

  pub file_unique : (r s : Answer) → Files m q first second r → Files m q first second s → r ≡ s
  file_unique r s p q =
      λ i. record {
        verdict = (p.verdict ∙ sym q.verdict) i;
        tag = (p.tag ∙ sym q.tag) i;
        metadata = (p.metadata ∙ sym q.metadata) i;
      }
