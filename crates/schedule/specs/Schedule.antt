-- RFC 8446, section 7: the key schedule. A secret is a list of H bytes; `messages` are handshake messages, concatenated.
use Rattle.std.specs.Prelude.{ℕ, zero, suc, cond, List, [], ◌++◌, length, take, eqb}
use Rattle.buffer.specs.Buffer.{zeros}
use Rattle.suite.specs.Suite.{hash_length, key_length, iv_length}
use Rattle.suite_hash.specs.Hash.{hash}
use Rattle.hmac.specs.Rfc2104.{hmac}
use Rattle.hkdf.specs.Rfc5869.{extract}
use Rattle.hkdf.specs.Rfc8446.{expand_label, derive_secret}
use Rattle.schedule.specs.Labels.{Secret, label, derived, traffic_upd, key, iv, finished, exporting}

-- an input up to its limit: of a longer one, which every call refuses, no byte behind the limit is read
unfoldable pub within : ℕ → List ℕ → List ℕ
within limit input = take limit input

module _ (suite : ℕ) where
  -- "0": H zero bytes; they stand in for an absent PSK or shared secret
  abbrev pub or_zeros : List ℕ → List ℕ
  or_zeros v = cond (eqb (length v) 0) (zeros (hash_length suite)) v

  -- section 7.1, down the middle of the diagram: HKDF-Extract takes its salt from above and its input from the left
  unfoldable pub early_secret : List ℕ → List ℕ
  early_secret psk = extract suite (zeros (hash_length suite)) (or_zeros psk)

  unfoldable pub next_secret : List ℕ → List ℕ → List ℕ
  next_secret secret input = extract suite (derive_secret suite secret derived []) (or_zeros input)

  unfoldable pub handshake_secret : List ℕ → List ℕ → List ℕ
  handshake_secret early shared = next_secret early shared

  unfoldable pub master_secret : List ℕ → List ℕ
  master_secret handshake = next_secret handshake []

  -- and on its right: Derive-Secret, given the hash of the messages
  unfoldable pub from_hash : Secret → List ℕ → List ℕ → List ℕ
  from_hash x secret transcript_hash = expand_label suite secret (label x) transcript_hash (hash_length suite)

  -- section 7.2: application_traffic_secret_N+1, and the secret after n updates
  unfoldable pub next_traffic_secret : List ℕ → List ℕ
  next_traffic_secret secret = expand_label suite secret traffic_upd [] (hash_length suite)

  unfoldable pub updated : ℕ → List ℕ → List ℕ
  updated zero secret = secret
  updated (suc n) secret = next_traffic_secret (updated n secret)

  -- section 7.3: the key, and the IV right behind it
  unfoldable pub write_key : List ℕ → List ℕ
  write_key secret = expand_label suite secret key [] (key_length suite)

  unfoldable pub write_iv : List ℕ → List ℕ
  write_iv secret = expand_label suite secret iv [] (iv_length suite)

  unfoldable pub traffic_keys : List ℕ → List ℕ
  traffic_keys secret = write_key secret ++ write_iv secret

  -- section 4.4.4: verify_data under a base secret, given the hash of the messages; a PSK binder (4.2.11.2) likewise
  unfoldable pub verify_data : List ℕ → List ℕ → List ℕ
  verify_data base transcript_hash = hmac suite (expand_label suite base finished [] (hash_length suite)) transcript_hash

  -- section 7.5: TLS-Exporter(label, context_value, key_length)
  unfoldable pub tls_exporter : List ℕ → List ℕ → List ℕ → ℕ → List ℕ
  tls_exporter secret label context asked =
      expand_label suite (derive_secret suite secret label []) exporting (hash suite context) asked
