use Rattle.std.proofs.Common.{length}
use Rattle.sending.proofs.objects.station.+put_station_refused.Given as goal

abbrev pub decreases-put_station_refused : goal.decreases-put_station_refused
decreases-put_station_refused l = length l.codes.now
