-- A window over a sound store is sound.
use Rattle.std.specs.Prelude.{◌≡◌, ℕ, ◌+◌, Bool, true, false, cond, ◌&&◌, IfSome, None, Option, nat_le}
use Rattle.std.proofs.Common.{arith}
use Rattle.std.proofs.lemmas.Bool.{cond-false}
use Rattle.store.specs.Meaning.{Meaning, Record, Sound, version_ok}
use Rattle.store.specs.Windows.{seen, last_seen}

abbrev Dated : Option Record → Type 0
Dated o = IfSome o (λ k. version_ok k.version ≡ true)

dated_seen : (b : Bool) (o : Option Record) → Dated o → Dated (cond b o None)
dated_seen true o h = h
dated_seen false o h = tt

pub window_sound : (m : Meaning) (offset width : ℕ) → Sound m → Sound (seen m offset width)
window_sound m offset width s = record {
  small = let h = s.small in omega arith;
  inside = λ p e. cond-false (nat_le 1 p && nat_le p (last_seen m offset width)) (m.records (p + offset)) None e;
  versions = λ p. dated_seen (nat_le 1 p && nat_le p (last_seen m offset width)) (m.records (p + offset)) (s.versions (p + offset));
  refuser = s.refuser;
  own = omega arith;
}
