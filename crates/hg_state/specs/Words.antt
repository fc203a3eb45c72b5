-- The words of the lines that tell what stands, between their numbers and names.
use Rattle.std.specs.Prelude.{ℕ, List, codes}
use Rattle.hg_state.specs.declared.form.Form.{Form}
use Rattle.hg_state.specs.declared.form.Form.TheVariants as form
use Rattle.hg_state.specs.declared.form.Word.{Word}
use Rattle.hg_state.specs.declared.form.Word.TheVariants as word

-- of text
abbrev pub text_word : Word → List ℕ
text_word word.Worker = codes "worker "
text_word word.Holds = codes " holds"
text_word word.Hand = codes " hand "
text_word word.Empty = codes "empty"
text_word word.Quote = codes ""
text_word word.ChargedTo = codes " "
text_word word.Bytes = codes " "
text_word word.Limit = codes " of "
text_word word.Orphans = codes "orphans"
text_word word.Fresh = codes "fresh"
text_word word.NoNumber = codes " none"
text_word word.FirstNumber = codes " "
text_word word.NextNumber = codes " "
text_word word.LastNumber = codes ""
text_word word.Tenant = codes "tenant "
text_word word.TenantLive = codes " live "
text_word word.Segment = codes "segment "
text_word word.PageOf = codes "page "
text_word word.Page = codes "."
text_word word.PageClass = codes " class "
text_word word.Places = codes " places "
text_word word.Live = codes " live "
text_word word.Parted = codes " parted "
text_word word.Sent = codes " sent "
text_word word.Worn = codes " worn "
text_word word.Free = codes " free "
text_word word.Class = codes "class "
text_word word.Blocks = codes " blocks "
text_word word.Allocs = codes " allocs "
text_word word.Asked = codes " asked "
text_word word.Given = codes " given "
text_word word.End = codes "\n"

-- of JSON; names need no escape
abbrev pub json_word : Word → List ℕ
json_word word.Worker = codes "{\"worker\":"
json_word word.Holds = codes ",\"holds\":"
json_word word.Hand = codes ",\"hand\":"
json_word word.Empty = codes "null"
json_word word.Quote = codes "\""
json_word word.ChargedTo = codes ",\"tenant\":\""
json_word word.Bytes = codes "\",\"bytes\":"
json_word word.Limit = codes ",\"limit\":"
json_word word.Orphans = codes "{\"orphans\":"
json_word word.Fresh = codes "{\"fresh\":"
json_word word.NoNumber = codes "[]"
json_word word.FirstNumber = codes "["
json_word word.NextNumber = codes ","
json_word word.LastNumber = codes "]"
json_word word.Tenant = codes "{\"tenant\":\""
json_word word.TenantLive = codes "\",\"live\":"
json_word word.Segment = codes "{\"segment\":"
json_word word.PageOf = codes "{\"segment\":"
json_word word.Page = codes ",\"page\":"
json_word word.PageClass = codes ",\"class\":"
json_word word.Places = codes ",\"places\":"
json_word word.Live = codes ",\"live\":"
json_word word.Parted = codes ",\"parted\":"
json_word word.Sent = codes ",\"sent\":"
json_word word.Worn = codes ",\"worn\":"
json_word word.Free = codes ",\"free\":"
json_word word.Class = codes "{\"class\":"
json_word word.Blocks = codes ",\"blocks\":"
json_word word.Allocs = codes ",\"allocs\":"
json_word word.Asked = codes ",\"asked\":"
json_word word.Given = codes ",\"given\":"
json_word word.End = codes "}\n"

abbrev pub word_of : Form → Word → List ℕ
word_of form.Text w = text_word w
word_of form.Json w = json_word w
