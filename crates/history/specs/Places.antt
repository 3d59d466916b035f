-- Document 01, "The ten secret places": where each lies, its RFC value by the book, and when it is held.
use Rattle.std.specs.Prelude.{ℕ, Bool, true, false, cond, not, ◌||◌, List, [], ◌∷◌, eqb}
use Rattle.schedule.specs.Labels.{binder_of}
use Rattle.schedule.specs.Labels as Labels
use Rattle.session.specs.declared.Session.{Session}
use Rattle.book.specs.Call.{Call}
use Rattle.book.specs.Call.Call.{Begin, Feed, Early, Handshake, Application, Complete, Update, Close, Keys, Finished, Check, Binder, Export}
use Rattle.book.specs.On.{never, on_begin, on_update}
use Rattle.book.specs.Book.{Book}
use Rattle.session.specs.Values.{secret_of, client_application_secret, server_application_secret}
use Rattle.session.specs.Session.{chain_at}

pub data Place : Type 0 where
  chain : Place
  binder_key : Place
  client_early : Place
  early_exporter : Place
  client_handshake : Place
  server_handshake : Place
  client_application : Place
  server_application : Place
  exporter : Place
  resumption : Place

unfoldable pub lies : Place → Session → List ℕ
lies chain s = s.chain
lies binder_key s = s.binder_key
lies client_early s = s.client_early
lies early_exporter s = s.early_exporter
lies client_handshake s = s.client_handshake
lies server_handshake s = s.server_handshake
lies client_application s = s.client_application
lies server_application s = s.server_application
lies exporter s = s.exporter
lies resumption s = s.resumption

-- early, handshake and master secret in turn are the chain's, by the point
unfoldable pub value : Place → Book → List ℕ
value chain b = chain_at b
value binder_key b = secret_of (binder_of b.kind) b
value client_early b = secret_of Labels.Secret.client_early b
value early_exporter b = secret_of Labels.Secret.early_exporter b
value client_handshake b = secret_of Labels.Secret.client_handshake b
value server_handshake b = secret_of Labels.Secret.server_handshake b
value client_application b = client_application_secret b
value server_application b = server_application_secret b
value exporter b = secret_of Labels.Secret.exporter b
value resumption b = secret_of Labels.Secret.resumption b

-- which call it is; 0 stands for those that change no session byte
unfoldable pub kind_of : Call → ℕ
kind_of (Begin suite kind psk) = 1
kind_of (Feed message) = 2
kind_of Early = 3
kind_of (Handshake group secret) = 4
kind_of Application = 5
kind_of Complete = 6
kind_of (Update side) = 7
kind_of Close = 8
kind_of (Keys name output) = 0
kind_of (Finished side output) = 0
kind_of (Check side received) = 0
kind_of (Binder hello output) = 0
kind_of (Export name label context asked output) = 0

abbrev pub is_begin : Call → Bool
is_begin c = eqb (kind_of c) 1

abbrev pub is_early : Call → Bool
is_early c = eqb (kind_of c) 3

abbrev pub is_handshake : Call → Bool
is_handshake c = eqb (kind_of c) 4

abbrev pub is_application : Call → Bool
is_application c = eqb (kind_of c) 5

abbrev pub is_complete : Call → Bool
is_complete c = eqb (kind_of c) 6

abbrev pub is_close : Call → Bool
is_close c = eqb (kind_of c) 8

abbrev pub is_begin_with_psk : Call → Bool
is_begin_with_psk = on_begin (λ suite kind psk. not (eqb kind 0)) never

abbrev pub is_update_of : ℕ → Call → Bool
is_update_of side = on_update (λ s. eqb s side) never

-- The table: set by
unfoldable pub sets : Place → Call → Bool
sets chain c = is_begin c || (is_handshake c || is_application c)
sets binder_key c = is_begin_with_psk c
sets client_early c = is_early c
sets early_exporter c = is_early c
sets client_handshake c = is_handshake c
sets server_handshake c = is_handshake c
sets client_application c = is_application c || is_update_of 1 c
sets server_application c = is_application c || is_update_of 2 c
sets exporter c = is_application c
sets resumption c = is_complete c

-- and zero again at
unfoldable pub zeroes : Place → Call → Bool
zeroes chain c = is_complete c || is_close c
zeroes binder_key c = is_handshake c || is_close c
zeroes client_early c = is_complete c || is_close c
zeroes early_exporter c = is_complete c || is_close c
zeroes client_handshake c = is_complete c || is_close c
zeroes server_handshake c = is_complete c || is_close c
zeroes client_application c = is_close c
zeroes server_application c = is_close c
zeroes exporter c = is_close c
zeroes resumption c = is_close c

-- Whether a place is held after a list of accepted calls: from one that sets it to the next that zeroes it.
abbrev pub held_now : Place → Bool → Call → Bool
held_now p before c = cond (zeroes p c) false (cond (sets p c) true before)

unfoldable pub held : Place → Bool → List Call → Bool
held p before [] = before
held p before (c ∷ cs) = held p (held_now p before c) cs

-- the places that Keys and Export name
abbrev pub keys_place : ℕ → Place
keys_place name =
    cond (eqb name 1) client_early
    (cond (eqb name 2) client_handshake
    (cond (eqb name 3) server_handshake
    (cond (eqb name 4) client_application server_application)))

abbrev pub export_place : ℕ → Place
export_place name = cond (eqb name 1) early_exporter exporter
