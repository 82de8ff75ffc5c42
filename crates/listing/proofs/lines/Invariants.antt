-- `listing::lines` meets its contract. The loop's invariant: the lines from `from` up to `next` are written, each in at most `most_line` bytes.
use Prim.Native.Nat.{◌-◌, ◌*◌, ◌≤◌}
use mathlib.Core.Path.{◌≡◌}
use lib.ListN.{length}
use Rattle.listing.specs.Text.{Wrote, lines_of, most_line}
use Rattle.listing.proofs.lines.Given as goal

abbrev pub invariant-loop-k : goal.invariant-loop-k
invariant-loop-k l =
    (l.from ≤ l.k) × (l.k ≤ l.end) × (length l.out ≡ length l.initial.out) × (l.len ≤ (l.k - l.from) * most_line) × Wrote (lines_of l.records l.from (l.k - l.from)) l.initial.out 0 l.out l.len
