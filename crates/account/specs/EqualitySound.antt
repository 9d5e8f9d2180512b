-- Comparing decides equality, so it is symmetric and transitive.
use Rattle.std.specs.Prelude.{◌≡◌, Decides}
use Rattle.std.specs.Cmp.{IsPartialEquivalence, decided, on_per, partial_equiv_from_equiv, unsigned_Decides}
use Rattle.std.specs.Cmp.Lexicographic.{pointwise_decides}
use Rattle.std.proofs.Common.{ap}
use Rattle.std.proofs.lemmas.Bool.Decides.{Decides-and, Decides-like}
use Rattle.account.specs.Equality.{row_eq, tally_eq, account_eq}
use Rattle.account.specs.declared.account.Account.{Account}
use Rattle.account.specs.declared.tally.Row.{Row}
use Rattle.account.specs.declared.tally.Tally.{Tally}

pub row_decides : (r s : Row) → Decides (row_eq r s) (r ≡ s)
row_decides r s = Decides-like _ (ap (λ cs. record { counts = cs })) (ap (λ (v : Row). v.counts)) (pointwise_decides unsigned_Decides r.counts s.counts)

pub tally_decides : (t u : Tally) → Decides (tally_eq t u) (t ≡ u)
tally_decides t u =
    Decides-like
    _
    (λ h i. record { reserve = h.0 i; rows = h.1.0 i; issued = h.1.1 i })
    (λ p. (ap (λ (v : Tally). v.reserve) p, (ap (λ (v : Tally). v.rows) p, ap (λ (v : Tally). v.issued) p)))
    (Decides-and _ _ (unsigned_Decides t.reserve u.reserve) (Decides-and _ _ (pointwise_decides row_decides t.rows u.rows) (row_decides t.issued u.issued)))

pub tally_laws : IsPartialEquivalence tally_eq
tally_laws = partial_equiv_from_equiv (decided tally_eq tally_decides)

pub account_laws : IsPartialEquivalence account_eq
account_laws = on_per (λ (a : Account). a.tally) tally_laws
