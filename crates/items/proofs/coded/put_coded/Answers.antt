use Rattle.std.proofs.Common.{◌+◌, length, ap, ◌∙◌, arith}
use Rattle.items.specs.Writing.{put}
use Rattle.items.proofs.Puts.{wrote_room, wrote_more}
use Rattle.items.proofs.coded.put_coded.Goals as goal

pub put-next-requires : goal.put-next-requires
put-next-requires g c =
    let here = ap (λ x. length (g.E.Coded.written x)) c.value-item.is in
    let room = wrote_room g.E.Coded.written _ _ _ _ _ _ c.requires c.loop-value.invariant c.value-item.result c.loop-value-test.true in
    omega (arith, room, here)

pub loop-value-preserved : goal.loop-value-preserved
loop-value-preserved g c =
    let after = c.put-next.ensures.after ∙ ap (λ x. c.loop-value.next + length (g.E.Coded.written x)) c.value-item.is in
    let left = c.put-next.ensures.left ∙ ap (λ x. put c.loop-value.buffer c.loop-value.next (g.E.Coded.written x)) c.value-item.is in
    wrote_more g.E.Coded.written _ _ _ _ _ _ c.requires c.loop-value.invariant _ _ _ c.loop-value-test.true after left
