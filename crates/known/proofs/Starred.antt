-- Every starred point holds: the definitions, computed. Assumes nothing.
use mathlib.Core.Path.{refl}
use lib.Count.{ones, ones_in}
use Rattle.frame.specs.Frame.{unpacking, frame_of}
use Rattle.quorum.specs.World.{checking}
use Rattle.quorum.specs.Sets.{member}
use Rattle.host.specs.First.{first}
use Rattle.host.specs.Words.{senders, marks}
use Rattle.view.specs.View.{only_of, round_estimate, decided, after_round, after_view}
use Rattle.turn.specs.Moves.{due, search, heard, viewers, view_of, viewing, proceeding, chosen}
use Rattle.known.specs.Points.{Holds, starred, All, none, ◌and◌}

pub known : All Holds starred
unfolding starred checking unpacking frame_of chosen search first due senders marks member ones ones_in proceeding viewing viewers heard view_of after_view after_round round_estimate decided only_of
known =
    refl and refl and refl and refl and refl and refl and refl and refl and refl and refl and refl and refl and refl and refl and refl and none
