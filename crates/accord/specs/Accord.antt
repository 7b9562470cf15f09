-- Which messages a journal records. Assumes nothing.
use Rattle.std.specs.Prelude.{Bool, cond, not, ◌&&◌, ◌||◌, List, [], ◌∷◌, eqb, ltb}
use Rattle.halves.specs.Halves.{readable}
use Rattle.entitlements.specs.Entitlements.{largest}
use Rattle.history.specs.History.{Message}

-- ---- the messages that are recorded

-- 41 and 42 let it pass
abbrev pub is_recordable : Message → Bool
is_recordable m = not (eqb m.number 0 || ltb largest m.number) && readable m.text

-- those of messages
abbrev pub recordable : List Message → List Message
recordable [] = []
recordable (m ∷ later) = cond (is_recordable m) (m ∷ recordable later) (recordable later)
