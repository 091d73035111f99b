use Rattle.demands.proofs.RowOfFive.{row_of_five}
use Rattle.demands.proofs.row_of_five.Goals as goal

pub returns : goal.returns
returns c = row_of_five
