-- `page::put_record` meets its contract: the mark, the letter, the code and the number are put one after the other. Assumes nothing.
use Prim.Native.Nat.{ℕ}
use mathlib.Core.Path.{ap₂, subst}
use mathlib.Core.List.{List, [], ◌∷◌, ◌++◌}
use Rattle.room.specs.Room.{Put}
use Rattle.room.specs.RoomLaws.{put_four}
use Rattle.page.specs.Page.{mark, record_of}
use Rattle.page.proofs.put_record.Goals as goal

pub returns : goal.returns
unfolding record_of
returns c =
    let asked = c.args in
    let same = ap₂ (λ (l : ℕ) (n : List ℕ). mark ++ (l ∷ []) ++ asked.text.now ++ n) c.letter_of.ensures c.spell.ensures in
    subst (λ (bytes : List ℕ). Put asked.stretch.now 0 bytes c.put.result c.put.new.out) same
    (put_four c.put-end.ensures c.put-end-2.ensures c.put-end-3.ensures c.put.ensures)
