-- What a call answers (profile).
use Rattle.std.specs.Prelude.{ℕ}

-- The call did what it is for.
abbrev pub done : ℕ
done = 0

-- A new object was to go into a handle that has one.
abbrev pub occupied : ℕ
occupied = 1

-- The handle has no object.
abbrev pub empty : ℕ
empty = 2

-- The handle's object is of another kind than the call is for.
abbrev pub other_kind : ℕ
other_kind = 3

-- There was no memory.
abbrev pub no_memory : ℕ
no_memory = 4

-- Site and encoder are not one encoder's own address.
abbrev pub no_address : ℕ
no_address = 5

-- The faults of a store have the numbers behind that, in their order.
abbrev pub first_store_fault : ℕ
first_store_fault = 6

-- A message has more than 255 bytes.
abbrev pub message_length : ℕ
message_length = 10

-- Eight messages are held.
abbrev pub window_full : ℕ
window_full = 11

-- There is no such set, service, text or group.
abbrev pub not_there : ℕ
not_there = 12

-- Bytes are an image whose version is above 01: a newer program has written it.
abbrev pub newer_image : ℕ
newer_image = 13

-- Bytes are the image of an object of the other kind, or begin and end as one.
abbrev pub other_image : ℕ
other_image = 14

-- Bytes are no image.
abbrev pub damaged_image : ℕ
damaged_image = 15
