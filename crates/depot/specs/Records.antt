-- A record as a depot reads it.
use Rattle.std.specs.Prelude.{Some, None, Option}
use Rattle.store.specs.Meaning.{Record}
use Rattle.depot.specs.declared.kept.Kept.{Kept}

abbrev pub kept_in : Option Record → Option Kept
kept_in None = None
kept_in (Some k) = Some (record { version = k.version; account = k.account })
