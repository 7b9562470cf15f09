-- `entry::message_of` meets its contract: a line that starts with a letter and a space states what follows them, `T` asks for the total,
-- and any other line states nothing.
-- Assumes nothing.
use mathlib.Core.Path.{sym, ◌∙◌}
use Rattle.entitlements.specs.declared.Kind.TheVariants.{Activate, Cancel}
use Rattle.entry.specs.StatedLaws.{stated_starts, stated_asks, stated_none}
use Rattle.entry.proofs.message_of.Goals as goal

pub returns-then-starts : goal.returns-then-starts
returns-then-starts c =
    let line = c.args.line.now in
    let so = sym c.starts.ensures ∙ c.if-starts.true in
    c.message_after.ensures ∙ sym (stated_starts line Activate so)

pub returns-then-starts-2 : goal.returns-then-starts-2
returns-then-starts-2 c =
    let line = c.args.line.now in
    let so = sym c.starts-2.ensures ∙ c.if-starts-2.true in
    c.message_after-then-starts-2.ensures ∙ sym (stated_starts line Cancel so)

pub returns-then-asks : goal.returns-then-asks
returns-then-asks c =
    let line = c.args.line.now in
    sym (stated_asks line (sym c.asks.ensures ∙ c.if-asks.true))

pub returns : goal.returns
returns c =
    let line = c.args.line.now in
    let no-activation = sym c.starts.ensures ∙ c.if-starts.false in
    let no-cancellation = sym c.starts-2.ensures ∙ c.if-starts-2.false in
    sym (stated_none line no-activation no-cancellation (sym c.asks.ensures ∙ c.if-asks.false))
