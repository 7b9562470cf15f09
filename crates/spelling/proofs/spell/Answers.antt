-- `spelling::spell` meets its contract: eleven letters, then nine, and the other bytes stay. Assumes nothing.
use Prim.Native.Nat.{ℕ}
use mathlib.Core.Path.{◌≡◌, ap, ap₂, sym, ◌∙◌}
use mathlib.Core.List.{List, ◌++◌}
use lib.ListN.{length, drop}
use lib.Seq.{length-take-le}
use borrow.Author.Rules.{rules}
use Rattle.letters.specs.Letters.{letters, spelled_in}
use Rattle.spelling.specs.Spelling.{spelled_both}
use Rattle.spelling.specs.SpellingLaws.{spelled_into_lem, room_after, part_after}
use Rattle.spelling.proofs.spell.Goals as goal

pub returns : goal.returns
unfolding spelled_both
returns c =
    let a = c.args in
    let s : List ℕ = c.spell.new.room in
    let t : List ℕ = c.spell-2.new.room in
    let first : s ≡ spelled_in letters 11 a.location =
    c.spell.ensures ∙ ap (λ (n : ℕ). spelled_in letters n a.location) (length-take-le 11 a.room.now (search rules)) in
    let long : length s ≡ 11 = ap length first in
    let last : t ≡ spelled_in letters 9 a.rest =
    c.spell-2.ensures ∙ ap (λ (n : ℕ). spelled_in letters n a.rest) (part_after a.room.now s long (search rules)) in
    room_after a.room.now s t long
    ∙ ap₂ (λ (x y : List ℕ). (x ++ y) ++ drop 20 a.room.now) first last
    ∙ sym (spelled_into_lem a.location a.rest a.room.now (search rules))
