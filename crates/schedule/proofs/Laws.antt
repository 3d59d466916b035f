-- Laws of the schedule: lengths, and Derive-Secret where the hash of the messages is at hand.
use Prim.Native.Nat.{ℕ, zero, suc, ◌+◌, ◌≤◌}
use mathlib.Core.Path.{◌≡◌, ◌∙◌}
use mathlib.Core.List.{List, []}
use lib.ListN.{length, length-append}
use lib.Seq.{take_all}
use Rattle.suite.specs.Suite.{hash_length, key_length, iv_length}
use Rattle.suite_hash.specs.Hash.{hash}
use Rattle.hkdf.specs.Rfc8446.{derive_secret}
use Rattle.hmac.proofs.Prepared.{length-hmac}
use Rattle.hkdf.proofs.Calls.{length-expand_label}
use Rattle.keyed.proofs.Prepared.{derive_by_hash, length-extract}
use Rattle.schedule.specs.Labels.{Secret, label, traffic_upd, key, iv, exporting}
use Rattle.schedule.specs.Schedule.{within, early_secret, next_secret, handshake_secret, master_secret, from_hash, next_traffic_secret, updated, write_key, write_iv, traffic_keys, verify_data, tls_exporter}

pub from-hash : (suite : ℕ) (x : Secret) (secret m : List ℕ) → from_hash suite x secret (hash suite m) ≡ derive_secret suite
    secret (label x) m
unfolding from_hash
from-hash suite x secret m = derive_by_hash suite secret (label x) m

pub length-early : (suite : ℕ) (psk : List ℕ) → length (early_secret suite psk) ≡ hash_length suite
unfolding early_secret
length-early suite psk = length-extract suite _ _

pub length-handshake : (suite : ℕ) (early shared : List ℕ) → length (handshake_secret suite early shared) ≡ hash_length suite
unfolding handshake_secret next_secret
length-handshake suite early shared = length-extract suite _ _

pub length_master : (suite : ℕ) (handshake : List ℕ) → length (master_secret suite handshake) ≡ hash_length suite
unfolding master_secret next_secret
length_master suite handshake = length-extract suite _ _

pub length-from_hash : (suite : ℕ) (x : Secret) (secret transcript_hash : List ℕ) → length
    (from_hash suite x secret transcript_hash) ≡ hash_length suite
unfolding from_hash
length-from_hash suite x secret transcript_hash = length-expand_label suite secret (label x) transcript_hash (hash_length suite)

pub length-next_traffic_secret : (suite : ℕ) (secret : List ℕ) → length (next_traffic_secret suite secret) ≡ hash_length suite
unfolding next_traffic_secret
length-next_traffic_secret suite secret = length-expand_label suite secret traffic_upd [] (hash_length suite)

pub length-updated : (suite n : ℕ) (secret : List ℕ) → length secret ≡ hash_length suite → length (updated suite n secret) ≡ hash_length
    suite
unfolding updated
length-updated suite zero secret e = e
length-updated suite (suc n) secret e = length-next_traffic_secret suite (updated suite n secret)

pub length-write_key : (suite : ℕ) (secret : List ℕ) → length (write_key suite secret) ≡ key_length suite
unfolding write_key
length-write_key suite secret = length-expand_label suite secret key [] (key_length suite)

pub length-write_iv : (suite : ℕ) (secret : List ℕ) → length (write_iv suite secret) ≡ iv_length suite
unfolding write_iv
length-write_iv suite secret = length-expand_label suite secret iv [] (iv_length suite)

pub length-traffic_keys : (suite : ℕ) (secret : List ℕ) → length (traffic_keys suite secret) ≡ key_length suite + iv_length suite
unfolding traffic_keys
length-traffic_keys suite secret =
    length-append (write_key suite secret) (write_iv suite secret) ∙ rw
    (length-write_key suite secret, length-write_iv suite secret)

pub length-verify_data : (suite : ℕ) (base transcript_hash : List ℕ) → length (verify_data suite base transcript_hash) ≡ hash_length
    suite
unfolding verify_data
length-verify_data suite base transcript_hash = length-hmac suite _ transcript_hash

pub length-tls_exporter : (suite : ℕ) (secret name context : List ℕ) (asked : ℕ) → length
    (tls_exporter suite secret name context asked) ≡ asked
unfolding tls_exporter
length-tls_exporter suite secret name context asked = length-expand_label suite _ exporting (hash suite context) asked

-- an input that keeps to its limit is read whole
pub within_limit : (limit : ℕ) (input : List ℕ) → length input ≤ limit → within limit input ≡ input
unfolding within
within_limit limit input h = take_all limit input h
