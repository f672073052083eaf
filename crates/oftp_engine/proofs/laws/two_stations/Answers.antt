use Rattle.oftp_engine.proofs.TwoStations.{two_stations, two_stations_alone}
use Rattle.oftp_engine.proofs.laws.two_stations.Goals as goal

pub returns-clause-among : goal.returns-clause-among
returns-clause-among c = two_stations

pub returns-clause-alone : goal.returns-clause-alone
returns-clause-alone c = two_stations_alone
