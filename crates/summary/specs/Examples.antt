-- A summary computed from the definitions: a replay that stopped at a wrong mark, with two active places. Assumes nothing.
use Rattle.std.specs.Prelude.{ℕ, List, [], ◌∷◌, T}
use Rattle.facts.specs.Texts.{bytes, same_text}
use Rattle.lines.specs.Lines.{spelling}
use Rattle.entitlements.specs.Entitlements.{account_of}
use Rattle.replaying.specs.declared.Replayed.{Replayed}
use Rattle.replaying.specs.Replay.{replayed_by}
use Rattle.summary.specs.Summary.{places_from, summary_of}

-- Six records and then none; place 1 is free, whatever it holds
abbrev pub example : Replayed
example =
    replayed_by 53 186 (record { activated = 3; already = 0; cancelled = 1; inactive = 1; old = 1; full = 0 })
    (account_of (0 ∷ 7 ∷ 31 ∷ []) (1 ∷ 7 ∷ 33 ∷ []) (1 ∷ 0 ∷ 2 ∷ []) 1099511627775 2)

abbrev pub text : List ℕ
text =
    bytes
    "refused 53 186\nactivated 3\nalready 0\ncancelled 1\nnot active 1\nold 1\nfull 0\nlast 1099511627775\ntotal 2\n0 00000000000000000001\n2 000000000Y0000000011\n"

pub computed : T (same_text (summary_of example) text)
unfolding spelling places_from summary_of
computed = tt
