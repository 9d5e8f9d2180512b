-- A fresh account: its flat counts are cut into rows of zeros, and it is lawful.
use Rattle.std.proofs.Common.{◌≡◌, ℕ, ◌-◌, ◌*◌, ◌<◌, ◌≤◌, true, take, drop, replicate, sym, refl, ap, ◌∙◌, arith}
use Rattle.std.proofs.lemmas.List.{take-replicate, drop-replicate}
use Rattle.account.specs.Accounts.{fresh}
use Rattle.account.specs.Counter.{empty}
use Rattle.account.specs.Lawful.{lawful}
use Rattle.account.specs.Tallies.{limit, eight, row_of}
use Rattle.account.specs.declared.tally.Row.{Row}
use Rattle.account.proofs.Moves.{lawful_of}

eight_zeros : eight {X = ℕ} (λ j. 0) ≡ replicate 8 0
unfolding eight
eight_zeros = refl

pub cut_zeros : (r : Row) (i : ℕ) → i < 9 → r.counts ≡ take 8 (drop (8 * i) (replicate 72 0)) → r ≡ row_of (λ j. 0)
cut_zeros r i h e =
    ap (λ cs. record { counts = cs }) (e ∙ ap (take 8) (drop-replicate (8 * i) 72 0) ∙ take-replicate 8 (72 - 8 * i) 0 (omega arith) ∙ sym eight_zeros)

pub fresh-lawful : (r : ℕ) → r ≤ limit → lawful (fresh r) ≡ true
fresh-lawful r h =
    lawful_of (empty r) (record { least = h; counts = λ i j a b p q. omega arith; issues = λ i a b. omega arith; cover = λ j a b. omega arith })
