use Rattle.std.proofs.Common.{◌≡◌, ℕ, ◌+◌, ◌*◌, ◌%◌, ◌<◌, ◌≤◌, ◌⊎◌, List, length, get_or, sym, ap, ◌∙◌, inl, inr, mul-le-mul_right, arith}
use Rattle.numbers.specs.Numbers.{in_range, front_number}
use Rattle.numbers.proofs.Numbers.{Reads, Last, reads_none, reads_bound, reads_last, reads_full, reads_more, reads_all, last_longer, last_over, last_good}
use Rattle.numbers.proofs.number.front_number.Goals as goal

pub loop-i-init : goal.loop-i-init
loop-i-init c = reads_none c.args.bytes.now

pub overflow_mul-value : goal.overflow_mul-value
overflow_mul-value c =
    let h : c.loop-i.weight ≤ 268435456 = reads_bound _ _ _ _ c.loop-i.invariant in
    let m : get_or c.args.bytes.now c.loop-i.i 0 % 128 * c.loop-i.weight ≤ 127 * c.loop-i.weight = mul-le-mul_right _ (omega arith) in
    rw c.from.ensures (omega arith)

pub overflow_add-value : goal.overflow_add-value
overflow_add-value c =
    let h : c.loop-i.weight ≤ 268435456 = reads_bound _ _ _ _ c.loop-i.invariant in
    let m : get_or c.args.bytes.now c.loop-i.i 0 % 128 * c.loop-i.weight ≤ 127 * c.loop-i.weight = mul-le-mul_right _ (omega arith) in
    rw c.from.ensures (omega (arith, c.loop-i.invariant.3))

pub loop-i-preserved : goal.loop-i-preserved
loop-i-preserved c =
    rw c.from.ensures (reads_more _ _ _ _ c.loop-i-test.true c.loop-i.invariant (omega arith) c.if-byte-lt128.false)

-- the last group was read
module _ (bs : List ℕ) (i w a : ℕ) (within : i < length bs) (r : Reads bs i w a) (low : get_or bs i 0 < 128) where
  last : front_number bs ≡ Last w a i (get_or bs i 0) low
  unfolding front_number
  last = ap (in_range 1000000000) (reads_last bs i w a within r low)

-- the shortest form: the last group is not zero, or it is the first
shortest : {b i : ℕ} → (((b ≡ 0) × (i ≤ 0)) ⊎ (b ≡ 0 → ⊥)) → (b ≡ 0 → ⊥) ⊎ (i ≡ 0)
shortest (inl h) = inr (omega arith)
shortest (inr n) = inl n

pub returns-then-i-gt-FIRST_GROUP : goal.returns-then-i-gt-FIRST_GROUP
returns-then-i-gt-FIRST_GROUP c =
    let here = last _ _ _ _ c.loop-i-test.true c.loop-i.invariant c.if-byte-lt128.true in
    sym (here ∙ last_longer _ _ _ _ c.if-byte-lt128.true c.if-byte-eq0.true (omega arith))

pub returns-then-value-from : goal.returns-then-value-from
returns-then-value-from c =
    let here = last _ _ _ _ c.loop-i-test.true c.loop-i.invariant c.if-byte-lt128.true in
    let over : 1000000000 < c.loop-i.value + get_or c.args.bytes.now c.loop-i.i 0 % 128 * c.loop-i.weight =
    rw (← c.from.ensures) (omega arith) in
    sym (here ∙ last_over _ _ _ _ c.if-byte-lt128.true (shortest c.else-byte-eq0.either) over)

pub returns-then-byte-lt128 : goal.returns-then-byte-lt128
returns-then-byte-lt128 c =
    let here = last _ _ _ _ c.loop-i-test.true c.loop-i.invariant c.if-byte-lt128.true in
    let good : c.loop-i.value + get_or c.args.bytes.now c.loop-i.i 0 % 128 * c.loop-i.weight ≤ 1000000000 =
    rw (← c.from.ensures) (omega arith) in
    rw c.from.ensures (sym (here ∙ last_good _ _ _ _ c.if-byte-lt128.true (shortest c.else-byte-eq0.either) good))

pub returns-then-i-eq-LONGEST : goal.returns-then-i-eq-LONGEST
unfolding front_number
returns-then-i-eq-LONGEST c =
    sym (ap (in_range 1000000000) (reads_full _ _ _ _ c.loop-i-test.true c.loop-i.invariant (omega arith) c.if-byte-lt128.false))

pub returns : goal.returns
unfolding front_number
returns c = sym (ap (in_range 1000000000) (reads_all _ _ _ _ c.loop-i-test.false c.loop-i.invariant))
