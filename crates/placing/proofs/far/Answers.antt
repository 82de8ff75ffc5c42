-- `placing::far` meets its contract, by the law of proofs/Between.antt.
use Rattle.placing.proofs.Between.{far_between}
use Rattle.placing.proofs.far.Goals as goal

pub returns : goal.returns
returns c = far_between c.args.x
