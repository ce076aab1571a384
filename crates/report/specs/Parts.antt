-- What private functions leave: this definition serves the crate, and no promise of a call names it.
use Rattle.std.specs.Prelude.{ℕ, ◌+◌, ◌≡◌, List, ◌++◌, length, take, drop}
use Rattle.report.specs.declared.put.Line.{Line}

-- `new` stands behind the line so far, in the same bytes; what lies behind them both is as it was
pub record Adds (old : Line) (new : List ℕ) (line : Line) : Type 0 where
  pub same : line.out.ghost_name ≡ old.out.ghost_name
  pub keeps : length line.out.now ≡ length old.out.now
  pub ends : line.length ≡ old.length + length new
  pub front : take line.length line.out.now ≡ take old.length old.out.now ++ new
  pub back : drop line.length line.out.now ≡ drop line.length old.out.now
