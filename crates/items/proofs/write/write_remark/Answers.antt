use Rattle.std.proofs.Common.{arith}
use Rattle.items.proofs.Puts.{put_copied}
use Rattle.items.proofs.Writes.{remark_whole}
use Rattle.items.proofs.write.write_remark.Goals as goal

pub returns : goal.returns
returns c =
    let head = rw c.from.ensures at c.coded_len.ensures.sum in
    let after = rw c.from.ensures at c.put_coded-next.ensures.after in
    let left = rw c.from.ensures at c.put_coded-next.ensures.left in
    let copied = put_copied c.put_coded-next.new.buffer c.copy_from_slice.new.self c.args.text.now c.put_coded-next.result c.copy_from_slice.ensures.after in
    let done = remark_whole c.args.text.now c.args.buffer.now c.args.place (omega arith) (omega arith) _ head c.if-buffer-place.false _ _ _ after left copied in
    record { answer = done.answer; bytes = done.bytes }
