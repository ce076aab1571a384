-- How a run starts: the header and host records of a run file, and the rest of its bytes. Document 01, "Frames and run files" and "Refusal
-- numbers": "Header: 1, 2, 3, 4; then per host record 1, 4".
use Rattle.std.specs.Prelude.{ℕ, zero, suc, ◌+◌, ◌*◌, List, [], ◌++◌, set, replicate, drop}
use Rattle.answer.specs.Answer.{Answer, refused, accepted, Guard, guarded}
use Rattle.quorum.specs.World.{world_of}
use Rattle.quorum.specs.declared.World.{World}
use Rattle.host.specs.declared.Host.{Host}
use Rattle.file.specs.Layouts.{three_at, header_world, first_host}
use Rattle.file.specs.Reading.{header_word, header_guards, record_guards}
use Rattle.run.specs.declared.Run.{Run}

-- "A liar's three bytes are all zero"
abbrev pub liar : Host
liar = first_host 0

-- "two header bytes .. Then three bytes per host": where the record of host k stands, and behind the last one the first event
abbrev pub record_place : ℕ → ℕ
record_place k = 2 + 3 * k

-- "Host records stand in one list, a record per host": those of the first k hosts, and liars in the places behind them
unfoldable pub enrolled : List ℕ → ℕ → List Host
enrolled bytes zero = replicate 32 liar
enrolled bytes (suc k) = set (enrolled bytes k) k (first_host (three_at bytes (record_place k)))

-- "per host record 1, 4": both of a record before those of the next
unfoldable pub records_guards : List ℕ → ℕ → List Guard
records_guards bytes zero = []
records_guards bytes (suc k) = records_guards bytes k ++ record_guards bytes (record_place k)

-- the world that a file's header says
abbrev pub world_in : List ℕ → World
world_in bytes = header_world (header_word bytes)

abbrev pub start_guards : List ℕ → List Guard
start_guards bytes = header_guards bytes ++ records_guards bytes (world_in bytes).n

-- a run before its first event
abbrev pub fresh_run : World → List Host → Run
fresh_run w hosts = record { hosts = hosts; world = w; events = 0; refused = 0 }

abbrev pub first_run : List ℕ → World → Run
first_run bytes w = fresh_run w (enrolled bytes w.n)

unfoldable pub starting : List ℕ → Answer Run
starting bytes = guarded (start_guards bytes) (first_run bytes (world_in bytes))

-- ---- What stands beside the answer

-- a refused file has no run: where one has to stand, it is a run of nobody
abbrev pub blank : Run
blank = fresh_run (world_of 0 0) (replicate 32 liar)

-- "Checking the header and host records hands back the rest of the caller's bytes, from the first event on"; "(the header and record check has
-- an empty part beside it)" where it refuses
abbrev pub rest_by : List ℕ → Answer Run → List ℕ
rest_by bytes (refused k) = []
rest_by bytes (accepted run) = drop (record_place run.world.n) bytes
