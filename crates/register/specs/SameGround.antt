-- The mission's demand 3 for the lines of a register: lists of one ground, with one kind and one number, get the same code or the same
-- refusal number. Assumes nothing.
use Rattle.std.specs.Prelude.{◌≡◌, ℕ, Bool, true, false, cond, List, replicate, ◌==◌, refl}
use Rattle.std.proofs.Common.{sym}
use Rattle.replies.specs.Replies.{Outcome}
use Rattle.corners.specs.Corners.{corners_of}
use Rattle.boundary.specs.Changes.{SameGround}
use Rattle.unit.specs.Unit.{kind_of, coding}
use Rattle.unit.specs.SameGround.{Counted, coding_same}
use Rattle.lines.specs.Lines.{Reply, coded, refused}
use Rattle.register.specs.Said.{reply_of, code_said}

-- "the same code or the same refusal number"; the place of a refusal 4 or 31 may differ
abbrev pub SameReply : Reply → Reply → Type 0
SameReply (coded one) (coded other) = one ≡ other
SameReply (coded one) (refused number place) = ⊥
SameReply (refused number place) (coded other) = ⊥
SameReply (refused number place) (refused another elsewhere) = number ≡ another

same_reply : (one other : Outcome) → one.said.number ≡ other.said.number → one.room ≡ other.room → SameReply (reply_of one) (reply_of other)
same_reply one other e k = rw (sym e) (pick (one.said.number == 0))
  where
    pick : (b : Bool)
        → SameReply
        (cond b (coded one.room) (refused one.said.number one.said.place))
        (cond b (coded other.room) (refused one.said.number other.said.place))
    pick true = k
    pick false = refl

-- Two lines whose lists come from one another by the five changes, and pass the checks on pairing and number of corners
pub lines_same : (letter number : ℕ) (one other : List ℕ) → Counted (replicate 20 0) one → Counted (replicate 20 0) other
    → SameGround (corners_of one) (corners_of other) → SameReply (code_said letter number one) (code_said letter number other)
unfolding code_said
lines_same letter number one other h k same_ground =
    let same = coding_same h k same_ground (kind_of letter) number in
    same_reply
    (coding (replicate 20 0) one (kind_of letter) number)
    (coding (replicate 20 0) other (kind_of letter) number)
    same.0
    same.1
