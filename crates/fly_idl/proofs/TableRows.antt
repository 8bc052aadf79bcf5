-- Which row each message has in the table of documents.
use Rattle.std.proofs.Common.{◌≡◌, refl}
use Rattle.fly_schema.specs.Faults.{row_at}
use Rattle.fly_idl.specs.Rows.{message_table, bundle_number, bundle_row, task_number, task_row, task_metadata_number, task_metadata_row, workflow_number, workflow_row, node_number, node_row, interface_number, interface_row, variable_map_number, variable_map_row, variable_number, variable_row, literal_type_number, literal_type_row, union_type_number, union_type_row, literal_number, literal_row, literal_list_number, literal_list_row, literal_map_number, literal_map_row, scalar_number, scalar_row, union_number, union_row, binding_number, binding_row, binding_data_number, binding_data_row, binding_list_number, binding_list_row, binding_map_number, binding_map_row, submission_number, submission_row, primitive_number, primitive_row, blob_number, blob_row, blob_metadata_number, blob_metadata_row, binary_number, binary_row, error_number, error_row, blob_type_number, blob_type_row, enum_type_number, enum_type_row}

pub has-bundle : row_at message_table bundle_number ≡ bundle_row
unfolding message_table
has-bundle = refl

pub has-task : row_at message_table task_number ≡ task_row
unfolding message_table
has-task = refl

pub has-task_metadata : row_at message_table task_metadata_number ≡ task_metadata_row
unfolding message_table
has-task_metadata = refl

pub has-workflow : row_at message_table workflow_number ≡ workflow_row
unfolding message_table
has-workflow = refl

pub has-node : row_at message_table node_number ≡ node_row
unfolding message_table
has-node = refl

pub has-interface : row_at message_table interface_number ≡ interface_row
unfolding message_table
has-interface = refl

pub has-variable_map : row_at message_table variable_map_number ≡ variable_map_row
unfolding message_table
has-variable_map = refl

pub has-variable : row_at message_table variable_number ≡ variable_row
unfolding message_table
has-variable = refl

pub has-literal_type : row_at message_table literal_type_number ≡ literal_type_row
unfolding message_table
has-literal_type = refl

pub has-union_type : row_at message_table union_type_number ≡ union_type_row
unfolding message_table
has-union_type = refl

pub has-literal : row_at message_table literal_number ≡ literal_row
unfolding message_table
has-literal = refl

pub has-literal_list : row_at message_table literal_list_number ≡ literal_list_row
unfolding message_table
has-literal_list = refl

pub has-literal_map : row_at message_table literal_map_number ≡ literal_map_row
unfolding message_table
has-literal_map = refl

pub has-scalar : row_at message_table scalar_number ≡ scalar_row
unfolding message_table
has-scalar = refl

pub has-union : row_at message_table union_number ≡ union_row
unfolding message_table
has-union = refl

pub has-binding : row_at message_table binding_number ≡ binding_row
unfolding message_table
has-binding = refl

pub has-binding_data : row_at message_table binding_data_number ≡ binding_data_row
unfolding message_table
has-binding_data = refl

pub has-binding_list : row_at message_table binding_list_number ≡ binding_list_row
unfolding message_table
has-binding_list = refl

pub has-binding_map : row_at message_table binding_map_number ≡ binding_map_row
unfolding message_table
has-binding_map = refl

pub has-submission : row_at message_table submission_number ≡ submission_row
unfolding message_table
has-submission = refl

pub has-primitive : row_at message_table primitive_number ≡ primitive_row
unfolding message_table
has-primitive = refl

pub has-blob : row_at message_table blob_number ≡ blob_row
unfolding message_table
has-blob = refl

pub has-blob_metadata : row_at message_table blob_metadata_number ≡ blob_metadata_row
unfolding message_table
has-blob_metadata = refl

pub has-binary : row_at message_table binary_number ≡ binary_row
unfolding message_table
has-binary = refl

pub has-error : row_at message_table error_number ≡ error_row
unfolding message_table
has-error = refl

pub has-blob_type : row_at message_table blob_type_number ≡ blob_type_row
unfolding message_table
has-blob_type = refl

pub has-enum_type : row_at message_table enum_type_number ≡ enum_type_row
unfolding message_table
has-enum_type = refl
