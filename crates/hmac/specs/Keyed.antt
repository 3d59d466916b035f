-- A key that is ready for use, and what the code makes of one: functions of every value that such a key can have. Of the
-- keys that `prepare` gives, `proofs/Prepared` joins them to RFC 2104.
use Rattle.std.specs.Prelude.{ℕ, List, take}
use Rattle.buffer.specs.Buffer.{zeros}
use Rattle.suite.specs.Suite.{hash_length, block_length}
use Rattle.suite_hash.specs.declared.running.Running.{Running}
use Rattle.suite_hash.specs.Variants.{variant_of}
use Rattle.suite_hash.specs.Running.{run, absorbed, finished, running_of}
use Rattle.hmac.specs.declared.Keyed.{Keyed}
use Rattle.hmac.specs.Rfc2104.{ipad, opad}

-- the hash values after the two pads of a key
unfoldable pub keyed_of : ℕ → List ℕ → Keyed
keyed_of suite key =
    record { inner = (running_of (variant_of suite) (ipad suite key)).state; outer = (running_of (variant_of suite) (opad suite key)).state }

-- the running hash after a pad, of the hash value after it: a pad is one block, so that nothing is held
abbrev pub after_pad : ℕ → List ℕ → Running
after_pad suite s = run s (zeros 128) (block_length suite)

-- the outer hash over the digest of the inner one, in 48 bytes with zeros behind it
unfoldable pub closed : ℕ → List ℕ → Running → List ℕ
closed suite outer inner =
    let v = variant_of suite in
    finished v (absorbed v (after_pad suite outer) (take (hash_length suite) (finished v inner)))

unfoldable pub mac_of : ℕ → Keyed → List ℕ → List ℕ
mac_of suite k text = closed suite k.outer (absorbed (variant_of suite) (after_pad suite k.inner) text)
