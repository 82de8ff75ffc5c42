-- `settings_fault::pick` meets its contract: by its test.
use Rattle.settings_fault.proofs.pick.Goals as goal

pub returns-then-within : goal.returns-then-within
returns-then-within c = rw c.if-within.true

pub returns : goal.returns
returns c = rw c.if-within.false
