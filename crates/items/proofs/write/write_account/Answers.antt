use Rattle.std.proofs.Common.{◌≡◌, true, rules, arith}
use Rattle.account.specs.Parts.{part_ok}
use Rattle.items.proofs.Writes.{account_full, account_whole}
use Rattle.items.proofs.write.write_account.Goals as goal

pub returns-then-buffer-place : goal.returns-then-buffer-place
returns-then-buffer-place c =
    let ok : part_ok c.args.part ≡ true = search rules in
    let head = rw c.from.ensures at c.coded_len-3.ensures.sum in
    let done = account_full c.args.part ok c.args.account.now c.tally-tally.result c.tally-tally.ensures c.args.buffer.now c.args.place (omega arith) _ _ _ _ c.coded_len.ensures.sum c.coded_len-2.ensures.sum c.len.ensures.sum head (omega arith) in
    record { answer = done.answer; bytes = done.bytes }

pub returns : goal.returns
returns c =
    let ok : part_ok c.args.part ≡ true = search rules in
    let head = rw c.from.ensures at c.coded_len-3.ensures.sum in
    let after = rw c.from.ensures at c.put_coded-next.ensures.after in
    let left = rw c.from.ensures at c.put_coded-next.ensures.left in
    let two = c.put_coded-next-2.ensures in
    let three = c.put_coded-next-3.ensures in
    let done = account_whole c.args.part ok c.args.account.now c.tally-tally.result c.tally-tally.ensures c.args.buffer.now c.args.place (omega arith) _ _ _ _ c.coded_len.ensures.sum c.coded_len-2.ensures.sum c.len.ensures.sum head c.if-buffer-place.false _ _ _ _ _ _ _ after left two.after two.left three.after three.left c.put.ensures.left in
    record { answer = done.answer; bytes = done.bytes }
