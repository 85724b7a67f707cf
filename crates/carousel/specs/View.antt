-- The code's services and texts, without where they lie in memory. No public clause cites this.
use Rattle.rds_store.specs.Value.{ServiceData, StoredText}
use Rattle.carousel.specs.declared.station.Station.{Station}
use Rattle.carousel.specs.declared.station.Offer.{Offer}

abbrev pub service_of : Station → ServiceData
service_of s = record {
  pi = s.head.pi;
  ps = s.ps;
  tp = s.head.tp;
  ta = s.ta;
  music = s.music;
  pty = s.head.pty;
  texts = s.texts.now;
}

abbrev pub text_of : Offer → StoredText
text_of t = record { toggle = t.toggle; transmissions = t.transmissions; bytes = t.bytes.now }
