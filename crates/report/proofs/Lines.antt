-- The parts of a host's line are the line. Assumes nothing.
use Prim.Native.Nat.{ℕ}
use mathlib.Core.Path.{◌≡◌, sym}
use mathlib.Core.Bool.{true, false}
use mathlib.Core.List.{List, ◌++◌, append_assoc}
use Rattle.host.specs.Record.{lying}
use Rattle.host.specs.declared.Host.{Host}
use Rattle.report.specs.Text.{text, decimal}
use Rattle.report.specs.Lines.{standing_word, decision_word, fields, host_line}

-- of a host that lies
pub lying_parts : (me : ℕ) (h : Host) → lying h ≡ true → text "host " ++ decimal me ++ text " " ++ text "lying\n" ≡ host_line me h
unfolding text host_line
lying_parts me h e = rw e (sym (append_assoc (text "host " ++ decimal me ++ text " ") (text "lying") (text "\n")))

-- and of one that does not
joined : (me : ℕ) (h : Host) (word : List ℕ) → text "host " ++ decimal me ++ text " " ++ word
    ++ (text " round " ++ decimal h.round) ++ (text " phase " ++ decimal h.phase) ++ (text " stage " ++ decimal h.stage)
    ++ (text " est " ++ decimal h.est) ++ text " decided " ++ decision_word h ++ (text " sent " ++ decimal h.sent) ++ text "\n"
    ≡ text "host " ++ decimal me ++ text " " ++ (word ++ fields h) ++ text "\n"
joined me h word = simp append_assoc

pub standing_parts : (me : ℕ) (h : Host) → lying h ≡ false → text "host " ++ decimal me ++ text " " ++ standing_word h
    ++ (text " round " ++ decimal h.round) ++ (text " phase " ++ decimal h.phase) ++ (text " stage " ++ decimal h.stage)
    ++ (text " est " ++ decimal h.est) ++ text " decided " ++ decision_word h ++ (text " sent " ++ decimal h.sent) ++ text "\n"
    ≡ host_line me h
unfolding host_line
standing_parts me h e = rw e (joined me h (standing_word h))
