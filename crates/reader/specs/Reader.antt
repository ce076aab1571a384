-- A reader. Document 01, "Frames and run files": "Checking the header and host records hands back the rest of the caller's bytes, from the first
-- event on. Over that part, a reader holds the run's bytes together with its place."
use Rattle.std.specs.Prelude.{ℕ, ◌+◌, min, ◌≡◌, List}
use Rattle.std.specs.Borrow.{Bor}
use Rattle.file.specs.Reading.{left_from}
use Rattle.reader.specs.declared.Reader.{Reader}

-- the reader over the caller's own bytes (they are not copied), at this place
abbrev pub reader_at : Bor (List ℕ) → ℕ → Reader
reader_at events at = record { events = events; at = at }

-- "events of three bytes": the place behind what stands at a place. Behind an incomplete event it is the end, and where nothing stands it is the
-- place itself
abbrev pub behind : List ℕ → ℕ → ℕ
behind bytes at = at + min (left_from bytes at) 3

-- ---- Promises. Of `seen` and `event` it is `Shows`, as of `file::event_at`

-- the promise of `over`
abbrev pub Holds : Bor (List ℕ) → ℕ → Reader → Type 0
Holds events at reader = reader ≡ reader_at events at

-- the promise of `onward`
abbrev pub GoesOn : Reader → Reader → Type 0
GoesOn before after = Holds before.events (behind before.events.now before.at) after
