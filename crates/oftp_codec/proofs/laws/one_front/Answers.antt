use Rattle.oftp_codec.proofs.Fronts as law
use Rattle.oftp_codec.proofs.laws.one_front.Goals as goal

pub returns : goal.returns
returns c = record { one = law.one_front; some = law.some_front; frame = law.front_frame; rest = law.front_rest }
