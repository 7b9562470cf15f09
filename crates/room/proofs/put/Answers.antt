-- `room::put` meets its contract. The loop's invariant: the buffer is the lent one with the text's first bytes pasted at the position.
-- Assumes nothing.
use borrow.Author.Rules.{rules}
use native.Mathlib.Omega.{arith}
use Prim.Native.Nat.{ℕ, ◌+◌}
use native.Mathlib.Numerals.{add-one}
use mathlib.Core.Path.{◌≡◌, refl, sym, ap, ◌∙◌}
use mathlib.Core.List.{List}
use lib.ListN.{get_or, set, length-set}
use lib.Seq.{paste, paste-zero, paste-suc}
use Rattle.room.specs.Room.{put_at}
use Rattle.room.proofs.put.Goals as goal

pub loop-i-init : goal.loop-i-init
loop-i-init c =
    let asked = c.args in
    (search rules, refl, paste-zero asked.out.now asked.at asked.text.now)

pub loop-i-preserved : goal.loop-i-preserved
loop-i-preserved c =
    let out = c.args.out.now in
    let text = c.args.text.now in
    let at = c.args.at in
    let i = c.loop-i.i in (
      search rules,
      length-set c.loop-i.out (at + i) (get_or text i 0) ∙ c.loop-i.invariant.1,
      ap (λ (l : List ℕ). set l (at + i) (get_or text i 0)) c.loop-i.invariant.2
          ∙ paste-suc out at text i 0 (omega arith) (omega arith)
          ∙ ap (paste out at text) (sym (add-one i)),
    )

pub returns : goal.returns
unfolding put_at
returns c =
    let out = c.args.out.now in
    let at = c.args.at in
    let text = c.args.text.now in
    let n = c.fitting-n.result in
    let full : c.loop-i.i ≡ n = omega arith in
    record {
      ends = ap (λ (k : ℕ). at + k) c.fitting-n.ensures;
      holds = c.loop-i.invariant.2 ∙ ap (paste out at text) (full ∙ c.fitting-n.ensures);
    }
