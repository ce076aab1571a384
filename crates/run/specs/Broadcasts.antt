-- The frames that a host broadcasts over a run. Document 01, "What the program prints": "frames broadcast"; "How tight the promises are": "the
-- count is that of the frames its rules send".
use Rattle.std.specs.Prelude.{ℕ, cond, List, [], ◌∷◌, ◌++◌, eqb}
use Rattle.answer.specs.Answer.{Answer, refused, accepted}
use Rattle.frame.specs.declared.Frame.{Frame}
use Rattle.turn.specs.Applying.{Turn, idle, quiet, broadcast}
use Rattle.run.specs.Playing.{host_in, happens, full, run_after, table_after}
use Rattle.run.specs.declared.Run.{Run}

-- the frame that an event of this piece broadcast, if it was host i's turn and it broadcast one
abbrev pub frames_of : ℕ → List ℕ → Answer Turn → List Frame
frames_of i piece (refused k) = []
frames_of i piece (accepted idle) = []
frames_of i piece (accepted (quiet h)) = []
frames_of i piece (accepted (broadcast h f)) = cond (eqb (host_in piece) i) (f ∷ []) []

-- those of a whole run, in order, as far as it is played
unfoldable pub broadcasts : Run → List ℕ → List (List ℕ) → ℕ → List Frame
broadcasts run table [] i = []
broadcasts run table (piece ∷ more) i =
    cond (full run) []
    (frames_of i piece (happens run table piece).0 ++ broadcasts (run_after run table piece) (table_after run table piece) more i)
