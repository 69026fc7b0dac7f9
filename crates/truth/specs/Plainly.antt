-- The plain kind keeps the laws.
use Rattle.std.proofs.Common.{rules}
use Rattle.truth.specs.Laws.{Laws, Splits}
use Rattle.truth.specs.Plain.{plainly}

pub plain_laws : Laws plainly
plain_laws = search rules

pub plain_splits : Splits plainly
plain_splits = search rules
