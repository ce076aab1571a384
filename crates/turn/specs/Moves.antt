-- Which move a turn makes. Document 01, "What a host does", Turn: "makes one move, or answers "idle" exactly when none applies. Kinds are tried in
-- this order, and within echo and admit it is the first that applies, by round, phase, stage and value (0, 1, neither)". The paper's Figures 1
-- and 2, whose lines stand in brackets.
use Rattle.std.specs.Prelude.{ℕ, ◌+◌, ◌/◌, ◌%◌, Bool, cond, ◌&&◌, not, List, ltb, leb, eqb, Option, Some, None, is_some}
use Rattle.quorum.specs.Sets.{member, size, union}
use Rattle.quorum.specs.declared.Thresholds.{Thresholds}
use Rattle.host.specs.First.{first}
use Rattle.host.specs.Words.{instance, values, VAL, AUX, senders, marks, sent_bit, admit_bit, has_sent, admitted, begun}
use Rattle.host.specs.Record.{finished}
use Rattle.host.specs.declared.Host.{Host}
use Rattle.turn.specs.declared.choosing.Move.{Move}

-- ---- Echo and admit

-- how many senders stand behind a value in an instance [Figure 1, witness(v)]
abbrev pub witnesses : List ℕ → ℕ → ℕ → ℕ
witnesses words i v = size (senders words VAL i v)

-- a value of the instance has `need` or more VAL senders, and its mark, the v-th from bit `from` on, is not set
unfoldable pub due : List ℕ → ℕ → ℕ → ℕ → ℕ → Bool
due words need from i v = ltb v (values i) && leb need (witnesses words i v) && not (member (marks words i) (from + v))

-- "Echo: a value has t+1 or more VAL senders here and this host has not broadcast it in that instance." [Figure 1, lines 2, 3]
abbrev pub echo_due : List ℕ → Thresholds → ℕ → ℕ → Bool
echo_due words s = due words s.echo (sent_bit VAL 0)

-- "Admit: a value has 2t+1 or more VAL senders and is not admitted." [Figure 1, lines 5, 6; the admitted values are bin_values]
abbrev pub admit_due : List ℕ → Thresholds → ℕ → ℕ → Bool
admit_due words s = due words s.admit (admit_bit 0)

-- "the first that applies, by round, phase, stage and value": the 64 instances in order, and in each its three values in order
abbrev pub in_order : (ℕ → ℕ → Bool) → ℕ → Bool
in_order p k = p (k / 3) (k % 3)

abbrev pub found_at : Option ℕ → Option (ℕ × ℕ)
found_at None = None
found_at (Some k) = Some (k / 3, k % 3)

unfoldable pub search : (ℕ → ℕ → Bool) → Option (ℕ × ℕ)
search p = found_at (first (in_order p) 192)

-- ---- Proceed, in an instance i

-- "(a) Not begun: begin, and broadcast VAL of the own value, unless an echo already did." [Figure 2, line 1; Figure 1, line 1]
unfoldable pub beginning : List ℕ → ℕ → ℕ → Move
beginning words i own = cond (has_sent words VAL i own) (Move.BeginUnsent i) (Move.Begin i own)

-- whether an AUX was sent here
abbrev pub aux_sent : List ℕ → ℕ → Bool
aux_sent words i = is_some (first (has_sent words AUX i) (values i))

-- "(b) Begun, no AUX sent, something admitted: broadcast AUX of the lowest admitted value." [Figure 2, lines 2, 3]
abbrev pub aux_choice : List ℕ → ℕ → Option ℕ
aux_choice words i = first (admitted words i) (values i)

abbrev pub answering : ℕ → Option ℕ → Move
answering i (Some v) = Move.Aux i v
answering i None = Move.Idle

-- the senders whose recorded AUX is v, where v is admitted; nobody where it is not
unfoldable pub heard : List ℕ → ℕ → ℕ → ℕ
heard words i v = cond (ltb v (values i) && admitted words i v) (senders words AUX i v) 0

-- "senders whose recorded AUX value is admitted" [Figure 2, line 4]
unfoldable pub viewers : List ℕ → ℕ → ℕ
viewers words i = union (union (heard words i 0) (heard words i 1)) (heard words i 2)

-- "the view is the set of the values of all those senders": bit v where someone was heard with v [Figure 2, line 5]
unfoldable pub view_of : ℕ → ℕ → ℕ → ℕ
view_of a b c = cond (eqb a 0) 0 1 + cond (eqb b 0) 0 2 + cond (eqb c 0) 0 4

-- "(c) AUX sent, and at least n−t senders whose recorded AUX value is admitted" [Figure 2, line 4]
unfoldable pub viewing : List ℕ → ℕ → ℕ → Move
viewing words need i =
    cond (leb need (size (viewers words i))) (Move.View (view_of (heard words i 0) (heard words i 1) (heard words i 2))) Move.Idle

-- a finished host "proceeds no more"
unfoldable pub proceeding : List ℕ → Host → ℕ → ℕ → Move
proceeding words h need i =
    cond (finished h) Move.Idle
    (cond (not (begun words i)) (beginning words i h.own)
    (cond (not (aux_sent words i)) (answering i (aux_choice words i))
    (viewing words need i)))

-- ---- The move

abbrev pub or_next : Option (ℕ × ℕ) → (ℕ → ℕ → Move) → Move → Move
or_next (Some (i, v)) move next = move i v
or_next None move next = next

-- "Proceed, in the current instance only."
abbrev pub current : Host → ℕ
current h = instance h.round h.phase h.stage

-- echo, else admit, else proceed
unfoldable pub chosen : List ℕ → Host → Thresholds → Move
chosen words h s =
    or_next (search (echo_due words s)) Move.Echo
    (or_next (search (admit_due words s)) Move.Admit
    (proceeding words h s.view (current h)))
