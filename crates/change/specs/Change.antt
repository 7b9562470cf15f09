-- What a message changes in an account (document 02, requests 3 and 5), case by case as in entitlements/specs/Entitlements.antt, and what an
-- account is after a change. Assumes nothing.
use Rattle.std.specs.Prelude.{ℕ, cond, not, ◌||◌, List, eqb, leb, ltb}
use Rattle.halves.specs.declared.Halves.{Halves}
use Rattle.halves.specs.Halves.{halves_in, readable}
use Rattle.places.specs.Places.{places, is_free, lowest_place}
use Rattle.entitlements.specs.declared.Account.{Account}
use Rattle.entitlements.specs.declared.Kind.{Kind}
use Rattle.entitlements.specs.declared.Kind.TheVariants.{Activate, Cancel}
use Rattle.entitlements.specs.declared.Answer.{Answer}
use Rattle.entitlements.specs.declared.Answer.TheVariants as answer
use Rattle.entitlements.specs.Entitlements.{account_of, place_of, put_at, raised, lowered, zeros, largest, says, Done, done}
use Rattle.change.specs.declared.Change.{Change}
use Rattle.change.specs.declared.Step.{Step}

-- ---- a step

-- a code and an activity are put at a place
abbrev pub step_to : ℕ → ℕ → ℕ → Halves → ℕ → Step
step_to last total place code active = record { last = last; total = total; place = place; code = code; active = active }

-- nothing is put: 256 is no place
abbrev pub stays : ℕ → ℕ → Step
stays last total = step_to last total places zeros 0

-- the account after a step
abbrev pub stepped : Step → Account → Account
stepped s account =
    cond (ltb s.place places) (put_at account s.place s.code s.active s.last s.total)
    (account_of account.high account.low account.active s.last s.total)

-- ---- a change

-- an answer and a step
abbrev pub change : Answer → Step → Change
change answer step = record { answer = answer; step = step }

-- an answer, and what is put at a place
abbrev pub puts : Answer → ℕ → ℕ → ℕ → Halves → ℕ → Change
puts answer last total place code active = change answer (step_to last total place code active)

-- an answer, and nothing is put
abbrev pub keeps : Answer → ℕ → ℕ → Change
keeps answer last total = change answer (stays last total)

-- what a change does
abbrev pub makes : Change → Account → Done
makes c account = done (says c.answer) (stepped c.step account)

-- ---- what a message changes

-- an activation of a code that has a place, 256 where it is not active
unfoldable pub activating : List ℕ → ℕ → Halves → ℕ → ℕ → Change
activating active place code number total =
    cond (ltb place places) (keeps answer.Already number total)
    (cond (ltb (lowest_place (is_free active)) places) (puts answer.Activated number (raised total) (lowest_place (is_free active)) code 1)
    (keeps answer.Full number total))

-- a cancellation of one
unfoldable pub cancelling : ℕ → ℕ → ℕ → Change
cancelling place number total =
    cond (ltb place places) (puts answer.Cancelled number (lowered total) place zeros 0) (keeps answer.NotActive number total)

-- either message, of a code that has a place
abbrev pub acting_at : Kind → List ℕ → ℕ → Halves → ℕ → ℕ → Change
acting_at Activate active place code number total = activating active place code number total
acting_at Cancel active place code number total = cancelling place number total

-- and of a code in an account
abbrev pub acting_on : Kind → Account → Halves → ℕ → Change
acting_on kind account code number = acting_at kind account.active (place_of account code) code number account.total

-- 41, 42 and "old" change nothing
unfoldable pub change_of : Kind → Account → List ℕ → ℕ → Change
change_of kind account text number =
    cond (eqb number 0 || ltb largest number) (keeps answer.Number account.last account.total)
    (cond (not (readable text)) (keeps answer.Code account.last account.total)
    (cond (leb number account.last) (keeps answer.Old account.last account.total) (acting_on kind account (halves_in text) number)))

-- ---- a message of a code that was read, as a journal has it

-- either message with a number in range, of a code that was read and has a place: "old" changes nothing
unfoldable pub change_at : Kind → List ℕ → ℕ → ℕ → ℕ → Halves → ℕ → Change
change_at kind active last total place code number =
    cond (leb number last) (keeps answer.Old last total) (acting_at kind active place code number total)

-- and of a code in an account
abbrev pub change_by : Kind → Account → Halves → ℕ → Change
change_by kind account code number =
    change_at kind account.active account.last account.total (place_of account code) code number
