-- A slip that names no draft, with a serial that was given, never names one again.
use Rattle.std.proofs.Common.{◌≡◌, ℕ, ◌+◌, ◌≤◌, List, Some, None, Ok, Err, Option, Result, refl, ◌⊎◌, arith}
use Rattle.std.proofs.lemmas.Grind.{common_steps}
use Rattle.account.specs.Refusals.{by_answer}
use Rattle.account.specs.declared.account.Account.{Account}
use Rattle.account.specs.declared.booking.Booking.{Booking}
use Rattle.account.specs.declared.refusal.Refusal.{Refusal}
use Rattle.store.specs.Meaning.{Record}
use Rattle.depot.specs.Accounts.{Created}
use Rattle.depot.specs.Drafts.{opened_till, booked_till, Opened, Booked, Filed, Dropped, Restarted}
use Rattle.depot.specs.Laws.{Leads, here, creating, opening, booking, filing, dropping, restarting, Given, OpenedSlipIsGiven, SpentSlipNamesNoDraft}
use Rattle.depot.specs.Tills.{draft_in, with_account}
use Rattle.depot.specs.Views.{View, with_till, draft_at, draft_of, Leaves, Put}
use Rattle.depot.specs.declared.draft.Draft.{Draft}
use Rattle.depot.specs.declared.slip.Declined.{Declined}
use Rattle.depot.specs.declared.slip.Slip.{Slip}

-- the slip's serial was given, and it names no draft
abbrev Spent : View → Slip → Type 0
Spent v s = Given v s × (draft_of v s ≡ None)

spent_by : (v w : View) (s : Slip) (ts : List (Option Draft)) (o : ℕ) (put : Option Put) → Leaves v ts o put w → s.serial ≤ o → draft_at v.number ts s ≡ None → Spent w s
spent_by v w s ts o put l h e = grind arith

-- a till that is written over by one that has not the slip's draft
away : (n : ℕ) (s : Slip) (ts : List (Option Draft)) (k : ℕ) (t : Option Draft) → draft_in t s ≡ None → draft_at n ts s ≡ None → draft_at n (with_till ts k t) s ≡ None
away n s ts k t h e = grind (arith, common_steps)

-- another account in the same draft
rebooked : (n : ℕ) (s x : Slip) (ts : List (Option Draft)) (d : Draft) (a : Account) → draft_at n ts x ≡ Some d → draft_at n ts s ≡ None → draft_at n (with_till ts x.till (Some (with_account d a))) s ≡ None
rebooked n s x ts d a there e = grind (arith, common_steps)

module _ (v : View) (s : Slip) (was : Spent v s) where
  opened_none : (part : ℕ) (o : Option Record) → draft_in (opened_till v part o) s ≡ None
  opened_none part o = grind arith

  after_open : (till part : ℕ) (r : Result Slip Refusal) → (s.serial ≤ by_answer r (v.openings + 1) v.openings) × (draft_at v.number (by_answer r (with_till v.tills till (opened_till v part (v.store.records part))) v.tills) s ≡ None)
  after_open till part (Ok x) = (omega (arith, was.0), away v.number s v.tills till _ (opened_none part (v.store.records part)) was.1)
  after_open till part (Err e) = was

  after_book : (x : Slip) (b : Booking) (o : Option Draft) → draft_of v x ≡ o → (r : Result ℕ Refusal) → draft_at v.number (by_answer r (with_till v.tills x.till (booked_till v.number b o)) v.tills) s ≡ None
  after_book x b o e (Err f) = was.1
  after_book x b None e (Ok n) = away v.number s v.tills x.till None refl was.1
  after_book x b (Some d) e (Ok n) = rebooked v.number s x v.tills d _ e was.1

  module _ (w : View) where
    created : (part reserve : ℕ) (r : Result ℕ Refusal) → Created v part reserve r w → Spent w s
    created part reserve r c = grind (arith, common_steps)

    opened : (till part : ℕ) (r : Result Slip Refusal) → Opened v till part r w → Spent w s
    opened till part r c = let a = after_open till part _ in spent_by v w s _ _ _ c.left a.0 a.1

    booked : (x : Slip) (b : Booking) (r : Result ℕ Refusal) → Booked v x b r w → Spent w s
    booked x b r c = spent_by v w s _ _ _ c.left was.0 (after_book x b _ refl _)

    filed : (x : Slip) (r : Result ℕ Declined) → Filed v x r w → Spent w s
    filed x r c = grind (arith, common_steps)

    dropped : (x : Slip) (r : Result ℕ Declined) → Dropped v x r w → Spent w s
    dropped x r c = grind (arith, common_steps)

    restarted : (r : ℕ) → Restarted v r w → Spent w s
    restarted r c = grind (arith, common_steps)

leads : (v u : View) (s : Slip) → Spent v s → Leads v u → Spent u s
leads _ _ s h (here v) = h
leads v _ s h (creating {w = w} part reserve r u l c) = created w s (leads v w s h l) u part reserve r c
leads v _ s h (opening {w = w} till part r u l c) = opened w s (leads v w s h l) u till part r c
leads v _ s h (booking {w = w} x b r u l c) = booked w s (leads v w s h l) u x b r c
leads v _ s h (filing {w = w} x r u l c) = filed w s (leads v w s h l) u x r c
leads v _ s h (dropping {w = w} x r u l c) = dropped w s (leads v w s h l) u x r c
leads v _ s h (restarting {w = w} r u l c) = restarted w s (leads v w s h l) u r c

-- filing and dropping spend their slip
spends : (v w : View) (s : Slip) (r : Result ℕ Declined) → Given v s → Filed v s r w ⊎ Dropped v s r w → Spent w s
spends v w s r given over = grind (arith, common_steps)

pub spent_names_none : SpentSlipNamesNoDraft
spent_names_none v w u s r given over l = (leads w u s (spends v w s r given over) l).1

pub opened_is_given : OpenedSlipIsGiven
opened_is_given v w till part s c = grind (arith, common_steps)
