-- Bytes as texts: base64 (RFC 4648), read in either alphabet, with its padding or without it, and written in the standard alphabet
-- with padding, as the proto3 JSON mapping has `bytes`.
use Rattle.std.specs.Prelude.{ℕ, List, Option, Some, None}
use Rattle.base64.specs.Engines.{standard, standard_no_pad, url_safe, url_safe_no_pad}
use Rattle.base64.specs.GeneralPurpose.{decoded_of, encode_of}

-- the first that there is
abbrev pub or_next : Option (List ℕ) → Option (List ℕ) → Option (List ℕ)
or_next None next = next
or_next (Some bytes) next = Some bytes

-- the bytes that a text is
unfoldable pub bytes_of : List ℕ → Option (List ℕ)
bytes_of text =
    or_next (or_next (or_next (decoded_of standard text) (decoded_of standard_no_pad text)) (decoded_of url_safe text))
    (decoded_of url_safe_no_pad text)

-- the text of bytes
unfoldable pub bytes_text : List ℕ → List ℕ
bytes_text bytes = encode_of standard bytes
