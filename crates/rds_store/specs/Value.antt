-- What a store is, apart from how it is kept.
use Rattle.std.specs.Prelude.{ℕ, ◌≤◌, Bool, List, refl}
use Rattle.std.specs.Ordering.{nat_cmp, ordering_then}
use Rattle.std.specs.declared.cmp.Ordering.{Ordering}
use Rattle.std.specs.FinMap as map
use Rattle.std.specs.Coded.{Coded, code_by, coded×, coded_ℕ, coded_bool, coded_list}
use Rattle.rds_store.specs.declared.group.Group.{Group}

-- A RadioText: its toggle, how often it is sent (0 without limit), and its characters. (SPB 490, RadioText)
pub record StoredText : Type 0 where
  pub toggle : Bool
  pub transmissions : ℕ
  pub bytes : List ℕ

-- What one service has in one data set; the oldest text is first. (SPB 490, data sets and programme services)
pub record ServiceData : Type 0 where
  pub pi : ℕ
  pub ps : List ℕ
  pub tp : Bool
  pub ta : Bool
  pub music : Bool
  pub pty : ℕ
  pub texts : List StoredText

-- Places are pairs of a set's and a service's number, and are told apart by both.
abbrev pub place_cmp : (ℕ × ℕ) → (ℕ × ℕ) → Ordering
place_cmp a b = ordering_then (nat_cmp a.0 b.0) (nat_cmp a.1 b.1)

-- What each service has in each data set: a finite map from places.
abbrev pub Data : Type 0
Data = map.FinMap place_cmp ServiceData

-- A store: its sets are 1 to `sets`, the first service listed is the main one, and the first group goes out first.
-- (profile)
pub record Store : Type 0 where
  pub sets : ℕ
  pub services : List ℕ
  pub current : ℕ
  pub places : Data
  pub groups : List Group

-- What a group of a store is: its type and version are 00 to 1F, and so are the last bits of its block 2. (SPB 490,
-- free-format group)
pub record IsGroup (group : Group) : Type 0 where
  pub kind : group.kind ≤ 0x1F
  pub bits : group.bits ≤ 0x1F

-- ---- How these values are told apart (for the models).
-- Texts are the same where their three parts are.
abbrev pub coded_text : Coded StoredText
coded_text = code_by (Bool × (ℕ × List ℕ)) (coded× coded_bool (coded× coded_ℕ (coded_list coded_ℕ)))
    (λ t. (t.toggle, (t.transmissions, t.bytes)))
    (λ p. record { toggle = p.0; transmissions = p.1.0; bytes = p.1.1 }) (λ _. refl)

-- Services are the same where their seven parts are.
abbrev pub coded_service : Coded ServiceData
coded_service = code_by (ℕ × (List ℕ × (Bool × (Bool × (Bool × (ℕ × List StoredText))))))
    (coded× coded_ℕ (coded× (coded_list coded_ℕ) (coded× coded_bool
    (coded× coded_bool (coded× coded_bool (coded× coded_ℕ (coded_list coded_text)))))))
    (λ s. (s.pi, (s.ps, (s.tp, (s.ta, (s.music, (s.pty, s.texts)))))))
    (λ p. record {
      pi = p.0;
      ps = p.1.0;
      tp = p.1.1.0;
      ta = p.1.1.1.0;
      music = p.1.1.1.1.0;
      pty = p.1.1.1.1.1.0;
      texts = p.1.1.1.1.1.1;
    }) (λ _. refl)

-- Groups are the same where their four parts are.
abbrev pub coded_group : Coded Group
coded_group = code_by (ℕ × (ℕ × (ℕ × ℕ))) (coded× coded_ℕ (coded× coded_ℕ (coded× coded_ℕ coded_ℕ)))
    (λ g. (g.kind, (g.bits, (g.block3, g.block4))))
    (λ p. record { kind = p.0; bits = p.1.0; block3 = p.1.1.0; block4 = p.1.1.1 }) (λ _. refl)

-- Stores are the same where their five parts are.
abbrev pub coded_store : Coded Store
coded_store = code_by (ℕ × (List ℕ × (ℕ × (Data × List Group))))
    (coded× coded_ℕ (coded× (coded_list coded_ℕ) (coded× coded_ℕ
    (coded× (map.code (coded× coded_ℕ coded_ℕ) coded_service) (coded_list coded_group)))))
    (λ v. (v.sets, (v.services, (v.current, (v.places, v.groups)))))
    (λ p. record { sets = p.0; services = p.1.0; current = p.1.1.0; places = p.1.1.1.0; groups = p.1.1.1.1 })
    (λ _. refl)
