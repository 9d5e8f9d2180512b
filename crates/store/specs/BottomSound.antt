-- A bottom store is sound, where each of its records is in range.
use Rattle.std.specs.Prelude.{◌≡◌, ℕ, Bool, true, false, IfSome, Some, None, Option, refl}
use Rattle.std.proofs.Common.{arith}
use Rattle.std.proofs.lemmas.Bool.{and_parts, both_ways}
use Rattle.account.specs.Parts.{part_ok}
use Rattle.store.specs.Meaning.{Record, Sound, version_ok}
use Rattle.store.specs.Bottoms.{bottom, Ranged}

none_outside : (p : ℕ) (o : Option Record) → Ranged p o → (part_ok p) ≡ false → o ≡ None
none_outside p None h e = refl
none_outside p (Some k) h e = absurd (both_ways (part_ok p) e (and_parts (part_ok p) (version_ok k.version) h).0)

dated : (p : ℕ) (o : Option Record) → Ranged p o → IfSome o (λ k. version_ok k.version ≡ true)
dated p None h = tt
dated p (Some k) h = (and_parts (part_ok p) (version_ok k.version) h).1

pub bottom_sound : (f : ℕ → Option Record) (rewrites takes_new : Bool) → ((p : ℕ) → Ranged p (f p)) → Sound (bottom f rewrites takes_new)
bottom_sound f rewrites takes_new h = record {
  small = omega arith;
  inside = λ p e. none_outside p (f p) (h p) e;
  versions = λ p. dated p (f p) (h p);
  refuser = omega arith;
  own = omega arith;
}
