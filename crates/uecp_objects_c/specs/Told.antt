-- What a call tells, in the structs of C (profile).
use Rattle.std.specs.Prelude.{◌≡◌, ℕ, ◌&&◌, List, [], ◌∷◌, ◌++◌, length, take, drop, slice_get, Option, Some, None, Ok}
use Rattle.std.specs.Prelude.{Err}
use Rattle.std.specs.FinMap.{get}
use Rattle.uecp_frame.specs.Findings.{OpenPart}
use Rattle.uecp_frame.specs.Beyond.{found_beyond}
use Rattle.uecp_frame.specs.Fault.{number_of}
use Rattle.uecp_frame.specs.Feeding.{findings_of}
use Rattle.uecp_frame.specs.declared.fed.Found.{Found}
use Rattle.uecp_elements.specs.Codes.{byte_of}
use Rattle.rds_store.specs.Value.{Store, ServiceData, StoredText}
use Rattle.rds_store.specs.declared.group.Group.{Group}
use Rattle.uecp_encoder.specs.Answering.{Response, Replied, NotForMe, Unnumbered, NotNext, Dropped}
use Rattle.uecp_link.specs.declared.heard.HeardWhat.{HeardWhat}
use Rattle.uecp_link.specs.declared.heard.HeardWhat.TheVariants as what
use Rattle.c_values.specs.declared.finding.Finding.{Finding}
use Rattle.c_values.specs.Findings.{place_of, shown}
use Rattle.uecp_objects_c.specs.declared.handles.encoders.Answer.{Answer}
use Rattle.uecp_objects_c.specs.declared.handles.servers.Heard.{Heard}
use Rattle.uecp_objects_c.specs.declared.handles.stores.StoreView.{StoreView}
use Rattle.uecp_objects_c.specs.declared.handles.stores.ServiceView.{ServiceView}
use Rattle.uecp_objects_c.specs.declared.handles.stores.TextView.{TextView}
use Rattle.uecp_objects_c.specs.declared.handles.groups.PlainGroup.{PlainGroup}

-- What a deframer finds in some bytes from an open part, one finding or none, is told as `uecp_find` tells it.
pub record TellsFinding (part : OpenPart) (bytes : List ℕ) (old new : Finding) : Type 0 where
  pub found : Found
  pub found_is : found_beyond part bytes ≡ findings_of found
  pub told : new ≡ shown old found

-- What an encoder answers to a finding: a reply by kind 1, whether it is fresh, and its bytes at the start of the room
-- for them; a frame for another by 2, one with counter 00 by 3, one that is not the next by 4; a dropped segment by 5,
-- its fault's number and its place. All else stays.
abbrev pub told_response : Answer → Response → Answer
told_response told (Replied bytes fresh) = record told {
  kind = 1;
  is_fresh = fresh;
  length = length bytes;
  reply = bytes ++ drop (length bytes) told.reply;
}
told_response told NotForMe = record told { kind = 2 }
told_response told Unnumbered = record told { kind = 3 }
told_response told NotNext = record told { kind = 4 }
told_response told (Dropped fault) = record told { kind = 5; fault = number_of fault; place = place_of fault }

-- No answer is told by kind 0; else the first is told.
abbrev pub told_responses : Answer → List Response → Answer
told_responses told [] = record told { kind = 0 }
told_responses told (r ∷ rs) = told_response told r

-- What a server says: nothing by kind 0, an acknowledgement by 1, the counter and the byte of the code, a stray frame
-- by 2, a dropped segment by 3, its fault's number and its place. All else stays.
abbrev pub told_heard : Heard → HeardWhat → Heard
told_heard told what.Nothing = record told { kind = 0 }
told_heard told (what.Acknowledged counter code) =
    record told { kind = 1; counter = counter; code = byte_of code }
told_heard told what.Stray = record told { kind = 2 }
told_heard told (what.Dropped fault) = record told { kind = 3; fault = number_of fault; place = place_of fault }

-- Nothing said is told by kind 0; else the first is told.
abbrev pub told_heards : Heard → List HeardWhat → Heard
told_heards told [] = record told { kind = 0 }
told_heards told (w ∷ ws) = told_heard told w

-- A store: how many sets and services it has, which set is current, and how many groups wait.
abbrev pub told_store : Store → StoreView
told_store v = record {
  sets = v.sets;
  current = v.current;
  services = length v.services;
  groups = length v.groups;
}

-- What a service has in a set.
abbrev pub told_service : ServiceData → ServiceView
told_service s = record {
  pi = s.pi;
  name = s.ps;
  is_traffic_programme = s.tp;
  is_traffic_announcement = s.ta;
  is_music = s.music;
  programme_type = s.pty;
  texts = length s.texts;
}

-- A text; its bytes stand at the start of the room for them, and all else stays.
abbrev pub told_text : TextView → StoredText → TextView
told_text told t = record {
  toggle = t.toggle;
  transmissions = t.transmissions;
  length = length t.bytes;
  text = t.bytes ++ drop (length t.bytes) told.text;
}

-- A group in the fields of the same meaning.
abbrev pub told_group : Group → PlainGroup
told_group g = record { kind = g.kind; bits = g.bits; block3 = g.block3; block4 = g.block4 }

-- What a service has in a set of a store, if both are there.
abbrev pub service_at : Store → (set number : ℕ) → Option ServiceData
service_at v set number = get v.places (set, number)

-- The text at a place, from the oldest, that a service has in a set, if there is one.
abbrev pub text_at : Option ServiceData → (place : ℕ) → Option StoredText
text_at None place = None
text_at (Some s) place = slice_get s.texts place
