use Rattle.std.proofs.Common.{arith, rules}
use Rattle.journal.proofs.Puts.{room, zero-inside, appended}
use Rattle.journal.proofs.entry.append.Goals as goal

pub write_entry-next-requires-clause-room : goal.write_entry-next-requires-clause-room
write_entry-next-requires-clause-room c = omega (arith, room _ _ c.args.entry.now c.requires.ends c.requires.taken)

pub bounds-bytes-next : goal.bounds-bytes-next
bounds-bytes-next c = zero-inside _ _ c.args.entry.now c.requires.ends c.requires.taken _ _ c.write_entry-next.ensures.bytes c.write_entry-next.ensures.next

pub returns : goal.returns
returns c =
    let done = appended _ _ c.args.entry.now c.requires.ends c.requires.taken _ _ c.write_entry-next.ensures.bytes c.write_entry-next.ensures.next in
    search rules
