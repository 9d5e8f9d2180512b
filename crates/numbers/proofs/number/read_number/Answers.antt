use Rattle.std.proofs.Common.{◌≡◌, length, Ok, ap, rules, arith}
use Rattle.std.proofs.lemmas.List.{length-drop}
use Rattle.numbers.proofs.Numbers.{number-used}
use Rattle.numbers.specs.Numbers.{front_number}
use Rattle.numbers.proofs.number.read_number.Goals as goal

pub overflow_add-result : goal.overflow_add-result
overflow_add-result c =
    let here : front_number c.tail.result.now ≡ Ok (c.in_ok-n.n, c.in_ok-n.used) = search rules in
    omega (arith, (number-used _ _ here).1, ap length c.tail.ensures, length-drop c.args.place c.args.bytes.now)
