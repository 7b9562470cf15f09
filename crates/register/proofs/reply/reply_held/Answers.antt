-- `register::reply::reply_held` meets its contract: the bytes of the line are the room's first, or all of it. Assumes nothing.
use Rattle.std.proofs.Common.{sym, arith, length-take-le, take_all}
use Rattle.register.proofs.reply.reply_held.Goals as goal

pub returns-then-room-len : goal.returns-then-room-len
returns-then-room-len c =
    let asked = c.args in
    let all = take_all asked.line.len asked.room.now (omega (arith, c.if-room-len.true)) in
    rw all c.reply_line.ensures

pub slice_bounds-reply_line-end : goal.slice_bounds-reply_line-end
slice_bounds-reply_line-end c =
    let asked = c.args in
    sym (length-take-le asked.line.len asked.room.now c.if-room-len.false)
