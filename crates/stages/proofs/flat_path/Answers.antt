-- `stages::flat_path` meets its contract: arm by arm.
use Rattle.stages.specs.Paths.{flat_path_of}
use Rattle.stages.proofs.flat_path.Goals as goal

pub returns-in-TooFar : goal.returns-in-TooFar
unfolding flat_path_of
returns-in-TooFar c = rw (c.in-TooFar.is, ← c.nothing.ensures)

pub returns-in-NotCrossed : goal.returns-in-NotCrossed
unfolding flat_path_of
returns-in-NotCrossed c = rw (c.in-NotCrossed.is, ← c.nothing-in-NotCrossed.ensures)

pub returns-in-OffSurface : goal.returns-in-OffSurface
unfolding flat_path_of
returns-in-OffSurface c = rw (c.in-OffSurface.is, ← c.nothing-in-OffSurface.ensures)

pub returns-in-TooLong : goal.returns-in-TooLong
unfolding flat_path_of
returns-in-TooLong c = rw (c.in-TooLong.is, ← c.nothing-in-TooLong.ensures)

pub returns-in-Faded : goal.returns-in-Faded
unfolding flat_path_of
returns-in-Faded c = rw (c.in-Faded.is, ← c.nothing-in-Faded.ensures)

pub returns-in-Blocked : goal.returns-in-Blocked
unfolding flat_path_of
returns-in-Blocked c = rw (c.in-Blocked.is, ← c.nothing-in-Blocked.ensures)

pub returns-in-Faint : goal.returns-in-Faint
unfolding flat_path_of
returns-in-Faint c = rw (c.in-Faint.is, ← c.nothing-in-Faint.ensures)

pub returns-in-Passed : goal.returns-in-Passed
unfolding flat_path_of
returns-in-Passed c = rw c.in-Passed.is

pub nothing-requires : goal.nothing-requires
nothing-requires c = tt

pub nothing-requires-in-NotCrossed : goal.nothing-requires-in-NotCrossed
nothing-requires-in-NotCrossed c = tt

pub nothing-requires-in-OffSurface : goal.nothing-requires-in-OffSurface
nothing-requires-in-OffSurface c = tt

pub nothing-requires-in-TooLong : goal.nothing-requires-in-TooLong
nothing-requires-in-TooLong c = tt

pub nothing-requires-in-Faded : goal.nothing-requires-in-Faded
nothing-requires-in-Faded c = tt

pub nothing-requires-in-Blocked : goal.nothing-requires-in-Blocked
nothing-requires-in-Blocked c = tt

pub nothing-requires-in-Faint : goal.nothing-requires-in-Faint
nothing-requires-in-Faint c = tt
