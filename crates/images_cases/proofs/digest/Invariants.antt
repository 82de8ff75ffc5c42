-- `images_cases::digest` is safe and ends. The loop's invariant: the digest is below its modulus.
use Rattle.std.proofs.Common.{◌<◌}
use Rattle.images_cases.proofs.digest.Given as goal

abbrev pub invariant-loop-b : goal.invariant-loop-b
invariant-loop-b l = l.sum < 4294967291
