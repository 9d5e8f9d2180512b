-- What a kind that was read tells of its number.
use Rattle.std.proofs.Common.{◌≡◌, ℕ, eqb, Ok, refl, ap, subst, inl, inr}
use Rattle.std.proofs.lemmas.Bool.{cases_Bool, eqb-true}
use Rattle.items.specs.AccountItems.{of_account}
use Rattle.items.specs.Items.{number_of, kind_of}
use Rattle.items.specs.Parcels.{of_remark}
use Rattle.items.specs.declared.item.Kind.{Kind}
use Rattle.items.specs.declared.item.Kind.TheVariants.{Account, Remark}
use Rattle.numbers.proofs.Stands.{ok_same, never}

-- the number k was read as the kind g
abbrev pub Named : ℕ × ℕ → Kind × ℕ → Type 0
Named k g = (k.0 ≡ number_of g.0) × (k.1 ≡ g.1)

pub kind_named : (p : ℕ) (k : ℕ × ℕ) (g : Kind × ℕ) → kind_of p k ≡ Ok g → Named k g
kind_named p k g h =
    elim (cases_Bool (eqb k.0 1)) [
      | inl t ↦ subst (Named k) (ok_same (Account, k.1) g (rw (t, kind_of) at h)) (eqb-true k.0 1 t, refl)
      | inr t ↦
          elim (cases_Bool (eqb k.0 2)) [
            | inl u ↦ subst (Named k) (ok_same (Remark, k.1) g (rw (t, u, kind_of) at h)) (eqb-true k.0 2 u, refl)
            | inr u ↦ absurd (never g _ (rw (t, u, kind_of) at h))
          ]
    ]

account_asked : (p : ℕ) (kind : Kind) (next q : ℕ) → of_account p (kind, next) ≡ Ok q → ◌≡◌ {A = Kind × ℕ} (kind, next) (Account, q)
account_asked p Account next q h = ap (λ (n : ℕ). (Account, n)) (ok_same next q h)
account_asked p Remark next q h = absurd (never q _ h)

remark_asked : (p : ℕ) (kind : Kind) (next q : ℕ) → of_remark p (kind, next) ≡ Ok q → ◌≡◌ {A = Kind × ℕ} (kind, next) (Remark, q)
remark_asked p Account next q h = absurd (never q _ h)
remark_asked p Remark next q h = ap (λ (n : ℕ). (Remark, n)) (ok_same next q h)

-- the kind that was asked for
pub account_named : (p : ℕ) (k : ℕ × ℕ) (g : Kind × ℕ) (q : ℕ) → kind_of p k ≡ Ok g → of_account p g ≡ Ok q → Named k (Account, q)
account_named p k g q h asked = subst (Named k) (account_asked p g.0 g.1 q asked) (kind_named p k g h)

pub remark_named : (p : ℕ) (k : ℕ × ℕ) (g : Kind × ℕ) (q : ℕ) → kind_of p k ≡ Ok g → of_remark p g ≡ Ok q → Named k (Remark, q)
remark_named p k g q h asked = subst (Named k) (remark_asked p g.0 g.1 q asked) (kind_named p k g h)
