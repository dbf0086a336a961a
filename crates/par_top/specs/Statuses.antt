-- The statuses of the program: their numbers, and their lines on standard error.
use Rattle.std.specs.Prelude.{ℕ, ◌==◌, ◌&&◌, ◌||◌, List, [], ◌∷◌, ◌++◌, codes, decimal, map, nat_le, if◌then◌else◌}
use Rattle.std.specs.List.{flat_map}
use Rattle.contract_text.specs.declared.faults.TextFault.{TextFault}
use Rattle.contract_text.specs.declared.faults.TextFault.TheVariants as text
use Rattle.doc_forms.specs.declared.fault.Step.{Step}
use Rattle.doc_forms.specs.declared.fault.Step.TheVariants.{Key, Index}
use Rattle.doc_forms.specs.declared.fault.Which.{Which}
use Rattle.doc_forms.specs.declared.fault.Which.TheVariants as which
use Rattle.doc_forms.specs.declared.fault.DocFault.{DocFault}
use Rattle.doc_forms.specs.declared.fault.DocFault.TheVariants as fault
use Rattle.par_top.specs.declared.status.Status.{Status}
use Rattle.par_top.specs.declared.status.Status.TheVariants.{Ok, Usage, Refused, OutOfMemory, ReadFault, WriteFault}

-- PATHS

-- a lower-case letter, a digit or `_` as it is, and any other byte as `?`
abbrev pub printed_byte : ℕ → ℕ
printed_byte b = if (nat_le 97 b && nat_le b 122) || ((nat_le 48 b && nat_le b 57) || (b == 95)) then b else 63

abbrev pub key_text : List ℕ → List ℕ
key_text key = map printed_byte key

-- an item in brackets, and a key after a dot
abbrev pub step_text : Step → List ℕ
step_text (Key key) = codes "." ++ key_text key
step_text (Index i) = codes "[" ++ decimal i ++ codes "]"

-- no dot is before the first key
abbrev pub first_text : Step → List ℕ
first_text (Key key) = key_text key
first_text (Index i) = codes "[" ++ decimal i ++ codes "]"

-- the root is a dot
abbrev pub path_text : List Step → List ℕ
path_text [] = codes "."
path_text (first ∷ rest) = first_text first ++ flat_map step_text rest

-- FAULTS

abbrev pub which_word : Which → List ℕ
which_word which.Document = codes "document"
which_word which.Cut = codes "cut"
which_word which.Records = codes "records"
which_word which.Value = codes "value"
which_word which.Orderers = codes "orderers"
which_word which.Quorum = codes "quorum"
which_word which.Peers = codes "peers"
which_word which.Apps = codes "apps"
which_word which.Items = codes "items"
which_word which.Faulty = codes "faulty"
which_word which.Schedule = codes "schedule"
which_word which.Agents = codes "agents"
which_word which.Tau = codes "tau"
which_word which.Clients = codes "clients"
which_word which.Contract = codes "contract"
which_word which.Transactions = codes "transactions"
which_word which.Args = codes "args"
which_word which.Set = codes "set"
which_word which.All = codes "all"
which_word which.False = codes "false"
which_word which.Msg = codes "msg"
which_word which.Number = codes "number"
which_word which.Txns = codes "txns"
which_word which.Item = codes "item"
which_word which.Preds = codes "preds"
which_word which.Block = codes "block"
which_word which.Votes = codes "votes"
which_word which.Txn = codes "txn"
which_word which.Out = codes "out"
which_word which.FalseTxns = codes "false_txns"
which_word which.FalseVotes = codes "false_votes"
which_word which.Configs = codes "configs"

abbrev pub text_fault_word : TextFault → List ℕ
text_fault_word (text.Syntax at) = codes "syntax"
text_fault_word (text.UnknownName at) = codes "unknown_name"
text_fault_word (text.Kind at) = codes "kind"
text_fault_word (text.Limit at) = codes "limit"
text_fault_word (text.Double at) = codes "double"
text_fault_word text.OutOfMemory = []

-- the byte where a text's fault is
abbrev pub byte_of : TextFault → ℕ
byte_of (text.Syntax at) = at
byte_of (text.UnknownName at) = at
byte_of (text.Kind at) = at
byte_of (text.Limit at) = at
byte_of (text.Double at) = at
byte_of text.OutOfMemory = 0

abbrev pub fault_text : DocFault → List ℕ
fault_text fault.NotJson = codes "not json"
fault_text (fault.Field path) = codes "field " ++ path_text path
fault_text (fault.Limit which limit) = codes "limit " ++ which_word which ++ codes " " ++ decimal limit
fault_text (fault.Contract app f) = codes "contract " ++ decimal app ++ codes " " ++ text_fault_word f ++ codes " " ++ decimal (byte_of f)
fault_text (fault.Name path) = codes "name " ++ path_text path
fault_text (fault.Double path) = codes "double " ++ path_text path
fault_text fault.OutOfMemory = []

-- the line on standard error
abbrev pub line_of : Status → List ℕ
line_of Ok = []
line_of Usage = codes "parblock: usage\n"
line_of (Refused f) = codes "parblock: refused: " ++ fault_text f ++ codes "\n"
line_of OutOfMemory = codes "parblock: out of memory\n"
line_of ReadFault = codes "parblock: read fault\n"
line_of WriteFault = codes "parblock: write fault\n"

-- the number that the program ends with
abbrev pub code_of : Status → ℕ
code_of Ok = 0
code_of Usage = 2
code_of (Refused f) = 3
code_of OutOfMemory = 4
code_of ReadFault = 5
code_of WriteFault = 6
