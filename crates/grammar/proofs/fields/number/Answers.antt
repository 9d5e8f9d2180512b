use Rattle.std.proofs.Common.{◌+◌, ◌*◌, sym, subst, rules, arith, false-eqb}
use Rattle.grammar.proofs.Numbers.{Sofar, number_at, sofar_small, sofar_more, sofar_all}
use Rattle.grammar.proofs.fields.number.Goals as goal

pub returns-then-not-is_ascii_digit : goal.returns-then-not-is_ascii_digit
returns-then-not-is_ascii_digit c = sym (number_at c.args.field.now c.loop-b.b-index c.loop-b-test.true (sym c.if-not-is_ascii_digit.ensures.value))

pub overflow_mul-n : goal.overflow_mul-n
overflow_mul-n c = omega (arith, sofar_small _ _ _ c.loop-b.invariant (omega arith))

pub overflow_add-n : goal.overflow_add-n
overflow_add-n c = omega (arith, sofar_small _ _ _ c.loop-b.invariant (omega arith))

pub loop-b-preserved : goal.loop-b-preserved
loop-b-preserved c = subst (λ x. Sofar c.args.field.now (c.loop-b.b-index + 1) (10 * c.loop-b.n + x)) (search rules) (sofar_more _ _ _ c.loop-b.invariant c.loop-b-test.true (search rules))

pub returns : goal.returns
returns c = sym (sofar_all _ _ _ c.loop-b.invariant c.loop-b-test.false (omega (arith, false-eqb _ 0 c.if-is_empty.ensures)) (omega arith))
