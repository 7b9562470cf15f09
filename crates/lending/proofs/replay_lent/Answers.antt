-- `lending::replay_lent` meets its contract: what is no account, or the replay of the page. Assumes nothing.
use mathlib.Core.Path.{sym, ◌∙◌}
use Rattle.lending.specs.LendingLaws.{replay_refuses, replay_replays}
use Rattle.lending.proofs.replay_lent.Goals as goal

pub returns-then-not-is_account : goal.returns-then-not-is_account
returns-then-not-is_account c =
    let a = c.args in
    sym
    (replay_refuses a.high.now a.low.now a.active.now a.page.now
    (sym c.is_account.ensures ∙ c.if-not-is_account.true))

pub returns : goal.returns
returns c =
    let a = c.args in
    let lent = sym c.is_account.ensures ∙ c.if-not-is_account.false in
    rw (c.copy_from_slice.ensures.after, c.copy_from_slice-2.ensures.after, c.copy_from_slice-3.ensures.after)
    (c.replay-replayed.ensures ∙ sym (replay_replays a.high.now a.low.now a.active.now a.page.now lent))
