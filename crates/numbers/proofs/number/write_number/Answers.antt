use Rattle.std.proofs.Common.{◌≡◌, ℕ, ◌-◌, ◌≤◌, false, ltb, List, length, take, drop, arith}
use Rattle.std.proofs.lemmas.Bool.{le-ltb}
use Rattle.std.proofs.lemmas.List.{length-append, length-drop, length-take-le}
use Rattle.numbers.specs.Numbers.{number_bytes}
use Rattle.numbers.proofs.Numbers.{groups_some, writes_none, writes_more, writes_small, writes_all}
use Rattle.numbers.proofs.number.write_number.Goals as goal

pub slice_bounds-byte-items-count : goal.slice_bounds-byte-items-count
unfolding number_bytes
slice_bounds-byte-items-count c = omega (arith, groups_some 4 c.args.n)

pub loop-byte-init : goal.loop-byte-init
unfolding number_bytes
loop-byte-init c = writes_none (take (c.number_len-used.result - 1) c.args.out.now) c.args.n (omega arith)

-- how many bytes the loop goes over
shorter : (used : ℕ) (out : List ℕ) → used ≤ length out → length (take (used - 1) out) ≡ used - 1
shorter used out h = length-take-le (used - 1) out (omega arith)

pub loop-byte-preserved : goal.loop-byte-preserved
unfolding number_bytes
loop-byte-preserved c =
    let long = shorter c.number_len-used.result c.args.out.now (omega arith) in
    writes_more c.loop-byte.byte-items _ _ _ (omega arith) (omega arith) c.loop-byte.invariant

pub overflow_cast-out : goal.overflow_cast-out
unfolding number_bytes
overflow_cast-out c =
    let long = shorter c.number_len-used.result c.args.out.now (omega arith) in
    let some = groups_some 4 c.args.n in
    let small = writes_small c.loop-byte.byte-items _ _ _ (omega arith) c.loop-byte.invariant in
    omega arith

pub overflow_sub-out : goal.overflow_sub-out
unfolding number_bytes
overflow_sub-out c = omega (arith, groups_some 4 c.args.n)

pub bounds-out-used : goal.bounds-out-used
unfolding number_bytes
bounds-out-used c =
    let some = groups_some 4 c.args.n in
    let long = shorter c.number_len-used.result c.args.out.now (omega arith) in
    let whole = length-append c.loop-byte.byte-items (drop (c.number_len-used.result - 1) c.args.out.now) in
    omega (arith, length-drop (c.number_len-used.result - 1) c.args.out.now)

pub returns-clause-bytes : goal.returns-clause-bytes
unfolding number_bytes
returns-clause-bytes c =
    let some = groups_some 4 c.args.n in
    let long = shorter c.number_len-used.result c.args.out.now (omega arith) in
    let index : c.loop-byte.byte-index ≡ c.number_len-used.result - 1 = omega arith in
    let room : ltb (length c.args.out.now) (length (number_bytes c.args.n)) ≡ false = le-ltb _ _ (omega arith) in
    rw (← index, room) (writes_all c.args.out.now c.loop-byte.byte-items _ _ _ (omega arith) (omega arith) (omega arith) c.loop-byte.invariant)
