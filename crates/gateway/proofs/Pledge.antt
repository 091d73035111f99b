-- The gateway's pledge: an answer that is the definition's meets it, and two answers that meet it are equal.
-- Assumes nothing.
use Prim.Native.Nat.{ℕ}
use mathlib.Core.Path.{◌≡◌, sym, ap, ◌∙◌}
use mathlib.Core.List.{List}
use Rattle.commands.specs.declared.Metadata.{Metadata}
use Rattle.commands.specs.declared.Command.{Command}
use Rattle.gateway.specs.declared.Answer.{Answer}
use Rattle.gateway.specs.Gateway.{gateway_of, Checks}

module _ (m : Metadata) (k : Command) (a b : List ℕ) where
  pub pledged : {r : Answer} → r ≡ gateway_of m k a b → Checks m k a b r
  pledged e = record {
    verdict = ap (λ (x : Answer). x.verdict) e;
    tag = ap (λ (x : Answer). x.tag) e;
    metadata = ap (λ (x : Answer). x.metadata) e;
  }

  pub check_is : {r : Answer} → Checks m k a b r → r ≡ gateway_of m k a b
  check_is p = λ i. record { verdict = p.verdict i; tag = p.tag i; metadata = p.metadata i }

  pub check_unique : (r s : Answer) → Checks m k a b r → Checks m k a b s → r ≡ s
  check_unique r s p q = check_is p ∙ sym (check_is q)
