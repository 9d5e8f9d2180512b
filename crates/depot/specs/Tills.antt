-- Tills, drafts and slips. A till has a draft or is idle.
use Rattle.std.specs.Prelude.{ℕ, Bool, cond, ◌&&◌, List, is_some, Some, None, Option, ◌==◌, count_by}
use Rattle.account.specs.declared.account.Account.{Account}
use Rattle.depot.specs.declared.draft.Draft.{Draft}
use Rattle.depot.specs.declared.slip.Slip.{Slip}

-- is the draft this slip's? serial and version agree
abbrev pub is_of : Draft → Slip → Bool
is_of d s = d.serial == s.serial && d.kept.version == s.version

-- the draft of a till, if it is the slip's
abbrev pub draft_in : Option Draft → Slip → Option Draft
draft_in None s = None
draft_in (Some d) s = cond (is_of d s) (Some d) None

-- the same draft with another account
abbrev pub with_account : Draft → Account → Draft
with_account d a = record d { kept = record d.kept { account = a } }

-- how many tills have a draft
abbrev pub drafts : List (Option Draft) → ℕ
drafts ts = count_by is_some ts
