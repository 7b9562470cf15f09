-- No second answer meets the contracts of `recall`: they are equations of the answer and of what the slots have afterwards. Assumes nothing.
use Rattle.std.specs.Prelude.{◌≡◌, List}
use Rattle.facts.specs.Once.{once}
use Rattle.page.specs.Page.{Found}
use Rattle.recall.specs.declared.Slot.{Slot}

-- Two answers that meet the promise of `look` are the same
pub look_once : (f a b : Found) → a ≡ f → b ≡ f → a ≡ b
look_once f a b = once

-- and two contents of the slots that meet that of `note`
pub note_once : (l a b : List Slot) → a ≡ l → b ≡ l → a ≡ b
note_once l a b = once
