-- What holds of the decimals of any number.
use Rattle.lines.proofs.Decimals.{decimals_stand}
use Rattle.lines.proofs.write.decimals_stand.Goals as goal

pub returns : goal.returns
returns c = decimals_stand
